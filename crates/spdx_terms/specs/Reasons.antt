-- How faults are reported.
use Rattle.std.specs.Prelude.{ℕ, List, codes}
use Rattle.spdx_terms.specs.declared.error.ParseReason.{ParseReason}
use Rattle.spdx_terms.specs.declared.error.ParseReason.TheVariants.{Empty, InvalidCharacters, SeparatedPlus}
use Rattle.spdx_terms.specs.declared.error.ParseReason.TheVariants.{UnopenedParens, Unexpected, UnknownTerm}
use Rattle.spdx_terms.specs.declared.error.ParseReason.TheVariants.{UnknownException, DeprecatedId, GplNoPlus}
use Rattle.spdx_terms.specs.declared.error.ParseReason.TheVariants.{UnclosedParens}

abbrev pub reason_text : ParseReason → List ℕ
reason_text Empty = codes "expression is empty"
reason_text InvalidCharacters = codes "invalid character(s)"
reason_text SeparatedPlus = codes "a plus was separated from its license"
reason_text UnopenedParens = codes "unopened parens"
reason_text Unexpected = codes "unexpected term"
reason_text UnknownTerm = codes "unknown term"
reason_text UnknownException = codes "unknown exception"
reason_text DeprecatedId = codes "a deprecated license identifier was used"
reason_text GplNoPlus = codes "a GNU license was followed by a plus"
reason_text UnclosedParens = codes "unclosed parens"
