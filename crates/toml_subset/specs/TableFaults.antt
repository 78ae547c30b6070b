-- Where the table rules refuse a key or a header: at the first of its parts that they refuse, reading from the root on.
use Rattle.std.specs.Prelude.{ℕ, ◌+◌, ◌==◌, nat_lt, if◌then◌else◌, List, [], ◌∷◌, Option, Some, None}
use Rattle.toml_subset.specs.Data.{depth_limit}
use Rattle.toml_subset.specs.Tables.{Node, Branches, Bodies, by_header, implicit, dotted, closed, growing, tables, last}
use Rattle.toml_subset.specs.Tables.{body, unbranched, branch, same_key, has_key}
use Rattle.toml_subset.specs.declared.error.SyntaxError.{SyntaxError}
use Rattle.toml_subset.specs.declared.error.SyntaxReason.{SyntaxReason}
use Rattle.toml_subset.specs.declared.error.SyntaxReason.TheVariants.{DuplicateKey, RedefinedTable, TooDeep}
use Rattle.toml_subset.specs.declared.string.Key.{Key}

abbrev pub fault_at_key : SyntaxReason → Key → Option SyntaxError
fault_at_key reason key = Some (record { reason = reason; span = key.span })

abbrev pub table_node_at : Key → Branches → Option Node
table_node_at key unbranched = None
table_node_at key (branch other node more) = if same_key key other then Some node else table_node_at key more

abbrev pub last_of : Bodies → Branches
last_of (last span branches) = branches
last_of (body span branches more) = last_of more

-- a table that a way leads into, and how many tables and arrays it enters there
abbrev pub Inside : Type 0
Inside = Branches × ℕ

-- A header goes through any table but an inline one, and through an array of tables in its last table.
abbrev pub inside_any : Node → Option Inside
inside_any (closed span content) = None
inside_any (growing span mark branches) = Some (branches, 1)
inside_any (tables span bodies) = Some (last_of bodies, 2)

-- A dotted key goes through tables that dotted keys made.
abbrev pub inside_dotted : Node → Option Inside
inside_dotted (closed span content) = None
inside_dotted (growing span by_header branches) = None
inside_dotted (growing span implicit branches) = None
inside_dotted (growing span dotted branches) = Some (branches, 1)
inside_dotted (tables span bodies) = None

-- The first part of a way that is refused, so many tables and arrays standing around its first: `inside` says which
-- tables it goes through, `end` what its last part refuses.
abbrev pub way_fault : (Node → Option Inside) → (Key → Branches → ℕ → Option SyntaxError) → List Key → Branches → ℕ
    → Option SyntaxError
way_fault inside end [] branches above = None
way_fault inside end (key ∷ []) branches above = end key branches above
way_fault inside end (key ∷ next ∷ more) branches above =
    elim (table_node_at key branches) [
      | Some node ↦ elim (inside node) [
        | Some found ↦ way_fault inside end (next ∷ more) found.0 (above + found.1)
        | None ↦ fault_at_key RedefinedTable key
      ]
      | None ↦ (if above == depth_limit then fault_at_key TooDeep key
          else way_fault inside end (next ∷ more) unbranched (above + 1))
    ]

abbrev pub new_key_fault : Key → Branches → ℕ → Option SyntaxError
new_key_fault key branches above = if has_key key branches then fault_at_key DuplicateKey key else None

-- a value's key
abbrev pub put_fault : List Key → Branches → ℕ → Option SyntaxError
put_fault = way_fault inside_dotted new_key_fault

-- the table of a header takes over an implicit one, or is new
abbrev pub taken_over_fault : Key → Node → Option SyntaxError
taken_over_fault key (closed span content) = fault_at_key RedefinedTable key
taken_over_fault key (growing span by_header branches) = fault_at_key RedefinedTable key
taken_over_fault key (growing span implicit branches) = None
taken_over_fault key (growing span dotted branches) = fault_at_key RedefinedTable key
taken_over_fault key (tables span bodies) = fault_at_key RedefinedTable key

abbrev pub open_table_fault : Key → Branches → ℕ → Option SyntaxError
open_table_fault key branches above =
    elim (table_node_at key branches) [
      | Some node ↦ taken_over_fault key node
      | None ↦ (if above == depth_limit then fault_at_key TooDeep key else None)
    ]

abbrev pub header_fault : List Key → Branches → Option SyntaxError
header_fault keys root = way_fault inside_any open_table_fault keys root 0

-- the table of an array header is a further one of its array, or the first of a new one, which is around it
abbrev pub appended_fault : Key → Node → Option SyntaxError
appended_fault key (closed span content) = fault_at_key RedefinedTable key
appended_fault key (growing span mark branches) = fault_at_key RedefinedTable key
appended_fault key (tables span bodies) = None

abbrev pub open_array_fault : Key → Branches → ℕ → Option SyntaxError
open_array_fault key branches above =
    elim (table_node_at key branches) [
      | Some node ↦ appended_fault key node
      | None ↦ (if nat_lt (above + 1) depth_limit then None else fault_at_key TooDeep key)
    ]

abbrev pub array_header_fault : List Key → Branches → Option SyntaxError
array_header_fault keys root = way_fault inside_any open_array_fault keys root 0
