-- Which headers and keys may meet which tables (TOML 1.0: Table, Inline Table, Array of Tables, and Keys on dotted
-- ones), as edits of a tree whose tables are marked by what made them.
use Rattle.std.specs.Prelude.{Bool, true, false, if◌then◌else◌, List, [], ◌∷◌, Option, Some, None, option_map}
use Rattle.std.specs.Prelude.{option_and_then}
use Rattle.std.specs.Str.{bytes_eq}
use Rattle.deny_text.specs.declared.span.Span.{Span}
use Rattle.toml_subset.specs.Data as «data»
use Rattle.toml_subset.specs.Data.{TomlContent, Items, Entries}
use Rattle.toml_subset.specs.Raw.{Raw, RawItems, RawEntries, raw_text, raw_integer, raw_decimal, raw_boolean, raw_array}
use Rattle.toml_subset.specs.Raw.{raw_table, raw_none, raw_item, raw_empty, raw_entry}
use Rattle.toml_subset.specs.declared.string.Key.{Key}

-- what made a table: a header of its own, a part of a header before the last, or a part of a dotted key
pub data Mark : Type 0 where
  by_header : Mark
  implicit : Mark
  dotted : Mark

mutual
  -- A value as it was written is closed, an inline table too: nothing extends it.
  pub data Node : Type 0 where
    closed : Span → TomlContent → Node
    growing : Span → Mark → Branches → Node
    tables : Span → Bodies → Node

  -- the keys of a table that may grow
  pub data Branches : Type 0 where
    unbranched : Branches
    branch : Key → Node → Branches → Branches

  -- the tables of an array of tables, of which the last is open
  pub data Bodies : Type 0 where
    last : Span → Branches → Bodies
    body : Span → Branches → Bodies → Bodies

abbrev pub span_of : Node → Span
span_of (closed span content) = span
span_of (growing span mark branches) = span
span_of (tables span bodies) = span

-- the tree without its marks
abbrev mutual
  pub content_of : Node → TomlContent
  content_of (closed span content) = content
  content_of (growing span mark branches) = data.table (entries_of branches)
  content_of (tables span bodies) = data.array (items_of bodies)

  pub entries_of : Branches → Entries
  entries_of unbranched = data.no_entry
  entries_of (branch key node more) = data.entry key (span_of node) (content_of node) (entries_of more)

  pub items_of : Bodies → Items
  items_of (last span branches) = data.item span (data.table (entries_of branches)) data.no_item
  items_of (body span branches more) = data.item span (data.table (entries_of branches)) (items_of more)

-- keys are equal by the texts that they stand for
abbrev pub same_key : Key → Key → Bool
same_key a b = bytes_eq a.name.text b.name.text

abbrev pub has_key : Key → Branches → Bool
has_key key unbranched = false
has_key key (branch other node more) = if same_key key other then true else has_key key more

-- a further key, at the end
abbrev pub branches_with_key : Key → Node → Branches → Branches
branches_with_key key node unbranched = branch key node unbranched
branches_with_key key node (branch other here more) = branch other here (branches_with_key key node more)

-- The table with an edit at a key. The entry keeps the key that first made it.
abbrev pub branches_with_edit : (Node → Option Node) → Key → Branches → Option Branches
branches_with_edit edit key unbranched = None
branches_with_edit edit key (branch other node more) =
    if same_key key other then option_map (λ new. branch other new more) (edit node)
    else option_map (branch other node) (branches_with_edit edit key more)

-- an edit in the last table of an array of tables
abbrev pub in_last : (Branches → Option Branches) → Bodies → Option Bodies
in_last edit (last span branches) = option_map (last span) (edit branches)
in_last edit (body span branches more) = option_map (body span branches) (in_last edit more)

-- A header goes through any table but an inline one, and through an array of tables in its last table.
abbrev pub through_any : (Branches → Option Branches) → Node → Option Node
through_any edit (closed span content) = None
through_any edit (growing span mark branches) = option_map (growing span mark) (edit branches)
through_any edit (tables span bodies) = option_map (tables span) (in_last edit bodies)

-- A dotted key goes through tables that dotted keys made, and through no other. These are of the same body, since a
-- body is opened once.
abbrev pub through_dotted : (Branches → Option Branches) → Node → Option Node
through_dotted edit (closed span content) = None
through_dotted edit (growing span by_header branches) = None
through_dotted edit (growing span implicit branches) = None
through_dotted edit (growing span dotted branches) = option_map (growing span dotted) (edit branches)
through_dotted edit (tables span bodies) = None

-- An edit at the last of some keys. Tables that are absent on the way are made with a mark, and are at the key part
-- that made them; `through` says which tables the way may go through.
abbrev pub edit_along : Mark → ((Branches → Option Branches) → Node → Option Node) → (Key → Branches → Option Branches)
    → List Key → Branches → Option Branches
edit_along mark through edit [] branches = None
edit_along mark through edit (key ∷ []) branches = edit key branches
edit_along mark through edit (key ∷ next ∷ more) branches =
    elim (has_key key branches) [
      | true ↦ branches_with_edit (through (edit_along mark through edit (next ∷ more))) key branches
      | false ↦ option_map (λ inner. branches_with_key key (growing key.span mark inner) branches)
          (edit_along mark through edit (next ∷ more) unbranched)
    ]

-- a key that its table has is refused
abbrev pub put_new : Node → Key → Branches → Option Branches
put_new node key branches = if has_key key branches then None else Some (branches_with_key key node branches)

-- a value at the end of a dotted key
abbrev pub branches_with_value : List Key → Node → Branches → Option Branches
branches_with_value keys node = edit_along dotted through_dotted (put_new node) keys

-- a header takes over an implicit table, once, and is refused on any other value
abbrev pub take_over : Span → Node → Option Node
take_over at (closed span content) = None
take_over at (growing span by_header branches) = None
take_over at (growing span implicit branches) = Some (growing at by_header branches)
take_over at (growing span dotted branches) = None
take_over at (tables span bodies) = None

abbrev pub open_table : Span → Key → Branches → Option Branches
open_table at key branches =
    if has_key key branches then branches_with_edit (take_over at) key branches
    else Some (branches_with_key key (growing at by_header unbranched) branches)

abbrev pub with_table : Span → Bodies → Bodies
with_table at (last span branches) = body span branches (last at unbranched)
with_table at (body span branches more) = body span branches (with_table at more)

-- an array header appends to an array of tables, and is refused on any other value
abbrev pub append_to : Span → Node → Option Node
append_to at (closed span content) = None
append_to at (growing span mark branches) = None
append_to at (tables span bodies) = Some (tables span (with_table at bodies))

abbrev pub open_array : Span → Key → Branches → Option Branches
open_array at key branches =
    if has_key key branches then branches_with_edit (append_to at) key branches
    else Some (branches_with_key key (tables at (last at unbranched)) branches)

-- an edit in the table that a header opened
abbrev pub edit_within : List Key → (Branches → Option Branches) → Branches → Option Branches
edit_within [] edit = edit
edit_within (key ∷ more) edit = branches_with_edit (through_any (edit_within more edit)) key

-- What a value as written stands for. The keys of an inline table keep the same rules as those of a body.
abbrev mutual
  pub meant : Raw → Option TomlContent
  meant (raw_text w) = Some (data.string w)
  meant (raw_integer z) = Some (data.integer z)
  meant (raw_decimal z) = Some (data.decimal z)
  meant (raw_boolean b) = Some (data.boolean b)
  meant (raw_array items) = option_map data.array (items_meant items)
  meant (raw_table entries) =
      option_map (λ branches. data.table (entries_of branches)) (entries_meant entries unbranched)

  pub items_meant : RawItems → Option Items
  items_meant raw_none = Some data.no_item
  items_meant (raw_item span value more) =
      option_and_then (λ content. option_map (data.item span content) (items_meant more)) (meant value)

  pub entries_meant : RawEntries → Branches → Option Branches
  entries_meant raw_empty branches = Some branches
  entries_meant (raw_entry keys span value more) branches =
      option_and_then
      (λ content. option_and_then (entries_meant more) (branches_with_value keys (closed span content) branches))
      (meant value)
