-- What is below a key that has further parts.
use Rattle.std.specs.Prelude.{◌≡◌, ℕ, ◌<◌, true, false, is_some, Option, Some, None}
use Rattle.deny_text.specs.declared.span.Span.{Span}
use Rattle.toml_subset.specs.Tables.{Node, Branches, growing, dotted, unbranched, has_key, branches_with_key}
use Rattle.toml_subset.specs.declared.string.Key.{Key}
use Rattle.toml_subset.specs.frames.Levels.{found_at, hole, branches_with_node, size}
use Rattle.toml_value.specs.BranchViews.{parts_of_dotted}

-- a key leads into a table that a dotted key made, where its table has the key
abbrev pub LeadsOn : Option (ℕ × Node) → Type 0
LeadsOn None = Unit {0}
LeadsOn (Some found) = is_some (parts_of_dotted found.1) ≡ true

-- The table below a key is taken out, and a hole is left at the key's place; where nothing is there, it is a new one.
abbrev pub IsTakenOut : Key → Branches → Branches → Option ℕ → Span → Branches → Type 0
IsTakenOut key old new None span inner =
    (found_at key old ≡ None) × (new ≡ old) × (span ≡ key.span) × (inner ≡ unbranched)
IsTakenOut key old new (Some i) span inner =
    (found_at key old ≡ Some (i, growing span dotted inner)) × (new ≡ branches_with_node i (hole key) old)

-- a node may be at a place of a table, or at a further key of it
abbrev pub HasRoom : Option ℕ → Key → Branches → Type 0
HasRoom None key table = has_key key table ≡ false
HasRoom (Some i) key table = i < size table

-- the table with it there
abbrev pub table_with_node : Option ℕ → Key → Node → Branches → Branches
table_with_node None key node table = branches_with_key key node table
table_with_node (Some i) key node table = branches_with_node i node table
