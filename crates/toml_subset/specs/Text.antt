-- Which text stands for which value. A text is read as lines, these make a table, and no value in it is deeper than
-- the limit. The root is the whole text.
use Rattle.std.specs.Prelude.{◌≡◌, ℕ, ◌+◌, ◌≤◌, List, Some, length}
use Rattle.deny_text.specs.declared.span.Span.{Span}
use Rattle.toml_subset.specs.Data.{TomlContent, Toml, table, depth_of, entries_depth, depth_limit}
use Rattle.toml_subset.specs.Lines.{Statement, Document, AreLines, after_lines, no_lines}
use Rattle.toml_subset.specs.Places.{from_to}
use Rattle.toml_subset.specs.Raw.{Raw, IsValue}
use Rattle.toml_subset.specs.Tables.{entries_of, meant}

pub record IsText (text : List ℕ) (value : Toml) : Type 0 where
  pub lines : List Statement
  pub document : Document
  pub stand : AreLines text 0 lines
  pub makes : after_lines lines no_lines ≡ Some document
  pub shallow : entries_depth (entries_of document.root) ≤ depth_limit
  pub is : value ≡ record { content = table (entries_of document.root); span = from_to 0 (length text) }

-- A value is at a place, up to a further one: it keeps the table rules, and with so many tables and arrays around it,
-- no value in it is deeper than the limit.
pub record StandsAs (above : ℕ) (text : List ℕ) (i : ℕ) (span : Span) (content : TomlContent) (next : ℕ) : Type 0 where
  pub raw : Raw
  pub is : IsValue text i span raw next
  pub means : meant raw ≡ Some content
  pub shallow : above + depth_of content ≤ depth_limit
