-- What an identifier says of a text.
use Rattle.std.specs.Prelude.{None}
use Rattle.spdx_terms.specs.declared.catalog.identifier.Match.{Match}

-- no licence was found
abbrev pub no_match : Match
no_match = record { name = None; score = 0 }
