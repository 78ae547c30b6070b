use Rattle.std.proofs.Common.{◌≡◌, take}
use Rattle.tree_core.proofs.place.copy_names.Given as goal

abbrev pub invariant-names : goal.invariant-names
invariant-names l = l.copies.items ≡ take l.name-index l.names
