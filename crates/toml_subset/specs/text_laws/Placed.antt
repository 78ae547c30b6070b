-- Where values and keys are in a text.
use Rattle.std.specs.Prelude.{◌≡◌, ℕ, false, List, slice_range, ⊤}
use Rattle.deny_text.specs.Spans.{LiesBetween}
use Rattle.deny_text.specs.declared.span.Span.{Span}
use Rattle.toml_subset.specs.Data.{TomlContent, Items, Entries, Toml, string, integer, decimal, boolean, array, table}
use Rattle.toml_subset.specs.Data.{no_item, item, no_entry, entry}
use Rattle.toml_subset.specs.Written.{WrittenString}
use Rattle.toml_subset.specs.declared.string.Key.{Key}

-- what was written without an escape is the text at its span
abbrev pub IsSpelled : List ℕ → Span → WrittenString → Type 0
IsSpelled text span written = written.escaped ≡ false → written.text ≡ slice_range text span.start span.end

abbrev pub IsKeyPlaced : List ℕ → Key → Type 0
IsKeyPlaced text key = LiesBetween text key.span × IsSpelled text key.span key.name

-- all that is in a value of a span: items, keys and the values of entries, down to the last
abbrev mutual
  pub IsContentPlaced : List ℕ → Span → TomlContent → Type 0
  IsContentPlaced text span (string written) = IsSpelled text span written
  IsContentPlaced text span (integer number) = ⊤
  IsContentPlaced text span (decimal number) = ⊤
  IsContentPlaced text span (boolean value) = ⊤
  IsContentPlaced text span (array items) = AreItemsPlaced text items
  IsContentPlaced text span (table entries) = AreEntriesPlaced text entries

  pub AreItemsPlaced : List ℕ → Items → Type 0
  AreItemsPlaced text no_item = ⊤
  AreItemsPlaced text (item span content more) =
      LiesBetween text span × IsContentPlaced text span content × AreItemsPlaced text more

  pub AreEntriesPlaced : List ℕ → Entries → Type 0
  AreEntriesPlaced text no_entry = ⊤
  AreEntriesPlaced text (entry key span content more) =
      IsKeyPlaced text key × LiesBetween text span × IsContentPlaced text span content × AreEntriesPlaced text more

-- a value and all that is in it
abbrev pub IsPlaced : List ℕ → Toml → Type 0
IsPlaced text value = LiesBetween text value.span × IsContentPlaced text value.span value.content
