-- the numbers so far
use Rattle.std.proofs.Common.{◌≡◌, map, take}
use Rattle.policy_parts.specs.spec.Index.{name_number}
use Rattle.check_core.proofs.evaluate.private_index.index_of_names.Given as goal

abbrev pub invariant-names : goal.invariant-names
invariant-names l = l.numbers ≡ map name_number (take l.name-index l.names)
