use Rattle.std.proofs.Common.{◌≡◌, map}
use Rattle.std.specs.List.{filter}
use Rattle.tree_core.specs.SystemNames.{names_entry}
use Rattle.tree_core.proofs.folder_tree.split_names.Given as goal

-- the names so far are those of entries among what was reported so far
abbrev pub invariant-names : goal.invariant-names
invariant-names l = l.names.items ≡ filter names_entry (map (λ x. x.now) l.yielded)
