use Rattle.std.proofs.Common.{◌≡◌, drop, map}
use Rattle.run_request.specs.Named.{named_in, pair_of}
use Rattle.run_request.proofs.from_word.value_named.Given as goal

-- the names that are left lead to what all names lead to
abbrev pub invariant-names : goal.invariant-names
invariant-names g l = named_in (map pair_of (drop l.name-index l.names)) l.word ≡ named_in (map pair_of l.names) l.word
