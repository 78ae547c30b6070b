use Rattle.std.proofs.Common.{take}
use Rattle.check_why.specs.Object.{term_data}
use Rattle.diag_print.specs.JsonTokens.{Adds}
use Rattle.diag_print.proofs.JsonLemmas.{each_tokens}
use Rattle.check_why.proofs.object.write_terms.Given as goal

-- the terms so far were written
abbrev pub invariant-terms : goal.invariant-terms
invariant-terms l = Adds l.initial.out l.out (each_tokens term_data (take l.term-index l.terms))
