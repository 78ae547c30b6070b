-- What a text of the subset stands for: values with their places, and tables with their keys in the order in which
-- these first appear.
use Rattle.std.specs.Prelude.{ℕ, ◌+◌, max, Bool, ℤ}
use Rattle.deny_text.specs.declared.span.Span.{Span}
use Rattle.toml_subset.specs.Written.{WrittenString}
use Rattle.toml_subset.specs.declared.string.Key.{Key}

mutual
  pub data TomlContent : Type 0 where
    string : WrittenString → TomlContent
    integer : ℤ → TomlContent
    -- whole hundredths
    decimal : ℤ → TomlContent
    boolean : Bool → TomlContent
    array : Items → TomlContent
    table : Entries → TomlContent

  -- the items of an array, each with its span
  pub data Items : Type 0 where
    no_item : Items
    item : Span → TomlContent → Items → Items

  -- the entries of a table, each with its key and its value's span
  pub data Entries : Type 0 where
    no_entry : Entries
    entry : Key → Span → TomlContent → Entries → Entries

-- a value with its place
pub record Toml : Type 0 where
  pub content : TomlContent
  pub span : Span

-- how many tables and arrays are between a value's outside and the deepest value in it, itself counted
abbrev mutual
  pub depth_of : TomlContent → ℕ
  depth_of (string w) = 0
  depth_of (integer z) = 0
  depth_of (decimal z) = 0
  depth_of (boolean b) = 0
  depth_of (array items) = 1 + items_depth items
  depth_of (table entries) = 1 + entries_depth entries

  pub items_depth : Items → ℕ
  items_depth no_item = 0
  items_depth (item span content more) = max (depth_of content) (items_depth more)

  pub entries_depth : Entries → ℕ
  entries_depth no_entry = 0
  entries_depth (entry key span content more) = max (depth_of content) (entries_depth more)

-- how deep values may be below the root
abbrev pub depth_limit : ℕ
depth_limit = 128
