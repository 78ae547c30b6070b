-- What a tree of tables stands for, and a key in it whose value is still to come.
use Rattle.std.specs.Prelude.{◌≡◌, List, Option, Some, None, Result, Ok, Err}
use Rattle.toml_subset.specs.Tables.{Branches}
use Rattle.toml_subset.specs.declared.error.SyntaxError.{SyntaxError}
use Rattle.toml_subset.specs.declared.string.Key.{Key}
use Rattle.toml_value.specs.BranchViews.{branches_view}
use Rattle.toml_value.specs.declared.tree.tables.TableTree.{TableTree}
use Rattle.toml_value.specs.declared.tree.tables.Awaiting.{Awaiting}

abbrev pub tree_view : TableTree → Branches
tree_view tree = branches_view tree.root

-- a key is awaited in its table, or else refused
abbrev pub IsAwaited : Option SyntaxError → List Key → Branches → Result Awaiting SyntaxError → Type 0
IsAwaited None keys tree (Ok awaiting) = (awaiting.keys ≡ keys) × (tree_view awaiting.tree ≡ tree)
IsAwaited None keys tree (Err fault) = ⊥
IsAwaited (Some refusal) keys tree (Ok awaiting) = ⊥
IsAwaited (Some refusal) keys tree (Err fault) = fault ≡ refusal
