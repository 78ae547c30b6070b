use Rattle.std.proofs.Common.{◌≡◌}
use Rattle.tree_core.specs.SystemNames.{system_names}
use Rattle.tree_core.proofs.folder_tree.entries_named.Given as goal

-- the entries so far have the names so far
abbrev pub invariant-names : goal.invariant-names
invariant-names g l = system_names l.entries ≡ l.yielded
