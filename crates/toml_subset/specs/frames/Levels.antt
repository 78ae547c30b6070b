-- The tables that headers opened, each taken out of the one around it: the way from the root to the table whose keys
-- the next lines fill.
use Rattle.std.specs.Prelude.{◌≡◌, ℕ, zero, suc, ◌+◌, ◌≤◌, ◌==◌, nat_lt, false, if◌then◌else◌, List, [], ◌∷◌, ◌++◌}
use Rattle.std.specs.Prelude.{Option, Some, None, Ok, Err, option_map, ⊤}
use Rattle.deny_text.specs.declared.span.Span.{Span}
use Rattle.toml_subset.specs.Answer.{TomlReading, then_read}
use Rattle.toml_subset.specs.Data as «data»
use Rattle.toml_subset.specs.Data.{depth_limit, entries_depth}
use Rattle.toml_subset.specs.Lines.{Document}
use Rattle.toml_subset.specs.TableFaults.{last_of}
use Rattle.toml_subset.specs.Tables.{Mark, by_header, implicit, dotted, Node, Branches, Bodies, closed, growing, tables}
use Rattle.toml_subset.specs.Tables.{unbranched, branch, last, body, same_key, branches_with_key, entries_of}
use Rattle.toml_subset.specs.declared.error.SyntaxError.{SyntaxError}
use Rattle.toml_subset.specs.declared.error.SyntaxReason.{SyntaxReason}
use Rattle.toml_subset.specs.declared.error.SyntaxReason.TheVariants.{RedefinedTable, TooDeep}
use Rattle.toml_subset.specs.declared.string.Key.{Key}
use Rattle.toml_subset.specs.declared.frames.part.HeaderPart.{HeaderPart}
use Rattle.toml_subset.specs.declared.frames.part.HeaderPart.TheVariants.{Through, Table, Array}

-- What a table that was taken out is where it is there: a table of its own, or the last one of an array of tables, with
-- the array's place, the tables before and its own place.
pub data Around : Type 0 where
  alone : Span → Mark → Around
  behind : Span → List (Span × Branches) → Span → Around

-- how many tables and arrays it puts around what is in it
abbrev pub steps_in : Around → ℕ
steps_in (alone span mark) = 1
steps_in (behind span before at) = 2

-- the tables of an array, of which the last is this one
abbrev pub bodies_to : List (Span × Branches) → Span → Branches → Bodies
bodies_to [] span inner = last span inner
bodies_to (x ∷ xs) span inner = body x.0 x.1 (bodies_to xs span inner)

-- what is there with the table put back
abbrev pub around_node : Around → Branches → Node
around_node (alone span mark) inner = growing span mark inner
around_node (behind span before at) inner = tables span (bodies_to before at inner)

-- a table without the one that was taken out of it, and the place of its key
pub record TableLevel : Type 0 where
  pub table : Branches
  pub place : ℕ
  pub around : Around

-- what is at the place of a table that was taken out
abbrev pub hole : Key → Node
hole key = closed key.span (data.boolean false)

-- another node at a place, from 0
abbrev pub branches_with_node : ℕ → Node → Branches → Branches
branches_with_node i node unbranched = unbranched
branches_with_node zero node (branch key old more) = branch key node more
branches_with_node (suc i) node (branch key old more) = branch key old (branches_with_node i node more)

-- the place of a key, and what is there
abbrev pub found_at : Key → Branches → Option (ℕ × Node)
found_at key unbranched = None
found_at key (branch other node more) =
    if same_key key other then Some (0, node) else option_map (λ (f : ℕ × Node). (suc f.0, f.1)) (found_at key more)

abbrev pub size : Branches → ℕ
size unbranched = 0
size (branch key node more) = suc (size more)

-- the table with the one that was taken out, as it is now, put back
abbrev pub table_with_inner : TableLevel → Branches → Branches
table_with_inner level inner = branches_with_node level.place (around_node level.around inner) level.table

-- all of them put back, the outermost first
abbrev pub all_plugged : List TableLevel → Branches → Branches
all_plugged [] inner = inner
all_plugged (level ∷ more) inner = table_with_inner level (all_plugged more inner)

abbrev pub steps : List TableLevel → ℕ
steps [] = 0
steps (level ∷ more) = steps_in level.around + steps more

-- the open table, what it was taken out of, and how many tables and arrays are around its entries
pub record Cursor : Type 0 where
  pub around : List TableLevel
  pub here : Branches
  pub above : ℕ

abbrev pub at_start : Cursor
at_start = record { around = []; here = unbranched; above = 0 }

-- the root as the open table
abbrev pub at_root : Cursor → Cursor
at_root c = record { around = []; here = all_plugged c.around c.here; above = 0 }

-- the tables of an array without the last, and the last one's place
abbrev pub before_last : Bodies → List (Span × Branches)
before_last (last span branches) = []
before_last (body span branches more) = (span, branches) ∷ before_last more

abbrev pub last_place : Bodies → Span
last_place (last span branches) = span
last_place (body span branches more) = last_place more

abbrev pub all_of : Bodies → List (Span × Branches)
all_of (last span branches) = (span, branches) ∷ []
all_of (body span branches more) = (span, branches) ∷ all_of more

-- What a part of a header opens of what is at it. A part before the last goes into any table but an inline one, and
-- into the last table of an array; the last one takes over an implicit table, or goes behind the tables of an array.
abbrev pub header_branches : HeaderPart → Node → Option (Around × Branches)
header_branches Through (closed span content) = None
header_branches Through (growing span mark inner) = Some (alone span mark, inner)
header_branches Through (tables span bodies) =
    Some (behind span (before_last bodies) (last_place bodies), last_of bodies)
header_branches (Table at) (closed span content) = None
header_branches (Table at) (growing span by_header inner) = None
header_branches (Table at) (growing span implicit inner) = Some (alone at by_header, inner)
header_branches (Table at) (growing span dotted inner) = None
header_branches (Table at) (tables span bodies) = None
header_branches (Array at) (closed span content) = None
header_branches (Array at) (growing span mark inner) = None
header_branches (Array at) (tables span bodies) = Some (behind span (all_of bodies) at, unbranched)

-- what it makes where nothing is there, unless that is too deep
abbrev pub new_around : HeaderPart → Key → ℕ → Option Around
new_around Through key above = if above == depth_limit then None else Some (alone key.span implicit)
new_around (Table at) key above = if above == depth_limit then None else Some (alone at by_header)
new_around (Array at) key above = if nat_lt (above + 1) depth_limit then Some (behind at [] at) else None

abbrev pub refusal : SyntaxReason → Key → SyntaxError
refusal reason key = record { reason = reason; span = key.span }

-- the way one table further
abbrev pub cursor_below : Cursor → Branches → ℕ → Around → Branches → Cursor
cursor_below c table place around inner = record {
  around = c.around ++ record { table = table; place = place; around = around } ∷ [];
  here = inner;
  above = c.above + steps_in around;
}

abbrev pub into_old : Key → Cursor → ℕ → Option (Around × Branches) → TomlReading Cursor
into_old key c i (Some found) = Ok (cursor_below c (branches_with_node i (hole key) c.here) i found.0 found.1)
into_old key c i None = Err (refusal RedefinedTable key)

abbrev pub into_new : Key → Cursor → Option Around → TomlReading Cursor
into_new key c (Some around) =
    Ok (cursor_below c (branches_with_key key (hole key) c.here) (size c.here) around unbranched)
into_new key c None = Err (refusal TooDeep key)

abbrev pub into_found : HeaderPart → Key → Cursor → Option (ℕ × Node) → TomlReading Cursor
into_found part key c (Some found) = into_old key c found.0 (header_branches part found.1)
into_found part key c None = into_new key c (new_around part key c.above)

-- a part of a header
abbrev pub into_part : HeaderPart → Key → Cursor → TomlReading Cursor
into_part part key c = into_found part key c (found_at key c.here)

-- all parts of a header, of which the last opens its table
abbrev pub into_parts : HeaderPart → List Key → Cursor → TomlReading Cursor
into_parts part [] c = Ok c
into_parts part (key ∷ []) c = into_part part key c
into_parts part (key ∷ next ∷ more) c = then_read (into_parts part (next ∷ more)) (into_part Through key c)

-- a header, from wherever the lines before it left the way
abbrev pub into_header : HeaderPart → List Key → Cursor → TomlReading Cursor
into_header part keys c = into_parts part keys (at_root c)

-- these keys lead from table to table
abbrev pub Lead : List Key → List TableLevel → Type 0
Lead [] [] = ⊤
Lead [] (level ∷ levels) = ⊥
Lead (key ∷ keys) [] = ⊥
Lead (key ∷ keys) (level ∷ levels) =
    ((node : Node) × (found_at key level.table ≡ Some (level.place, node))) × Lead keys levels

-- A way as it stands for a document: put together it is the document's tree, its section leads along it, and no value
-- is too deep.
pub record IsWay (document : Document) (c : Cursor) : Type 0 where
  pub root : document.root ≡ all_plugged c.around c.here
  pub leads : Lead document.section c.around
  pub deep : c.above ≡ steps c.around
  pub low : entries_depth (entries_of document.root) ≤ depth_limit

-- What a header came to on a way: its fault, or the tree with its table, whose keys the next lines fill.
abbrev pub IsOpened : Option SyntaxError → Option Branches → List Key → TomlReading Cursor → Type 0
IsOpened fault made keys (Ok c) =
    (fault ≡ None) × (made ≡ Some (all_plugged c.around c.here))
    × IsWay (record { root = all_plugged c.around c.here; section = keys }) c
IsOpened fault made keys (Err refusal) = fault ≡ Some refusal
