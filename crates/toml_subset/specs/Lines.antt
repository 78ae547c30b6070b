-- A text as its lines (TOML 1.0: Spec, Key/Value Pair, Table, Array of Tables).
use Rattle.std.specs.Prelude.{◌≡◌, ℕ, ◌+◌, ◌<◌, IsTrue, IsFalse, List, [], ◌∷◌, Option, Some, length, option_map}
use Rattle.std.specs.Prelude.{option_and_then}
use Rattle.deny_text.specs.declared.span.Span.{Span}
use Rattle.toml_subset.specs.Bytes.{open_bracket, close_bracket}
use Rattle.toml_subset.specs.Keys.{AreKeys}
use Rattle.toml_subset.specs.Places.{from_to, stands, after_blanks, next_line}
use Rattle.toml_subset.specs.Raw.{Raw, IsPair}
use Rattle.toml_subset.specs.Tables.{Branches, unbranched, closed, implicit, edit_along, branches_with_value}
use Rattle.toml_subset.specs.Tables.{through_any, open_table, open_array, edit_within, meant}
use Rattle.toml_subset.specs.declared.string.Key.{Key}

-- what a line says; headers have the span from bracket to bracket
pub data Statement : Type 0 where
  blank_line : Statement
  pair : List Key → Span → Raw → Statement
  table_header : Span → List Key → Statement
  array_header : Span → List Key → Statement

-- a statement is at a place, up to a further place on its last line
abbrev pub IsStatement : List ℕ → ℕ → Statement → ℕ → Type 0
IsStatement text i blank_line next = next ≡ i
IsStatement text i (pair keys span value) next = IsPair text i keys span value next
IsStatement text i (table_header span keys) next =
    IsTrue (stands text i open_bracket) × IsFalse (stands text (i + 1) open_bracket)
    × ((k : ℕ) × AreKeys text (after_blanks text (i + 1)) keys k
    × IsTrue (stands text (after_blanks text k) close_bracket)
    × (next ≡ after_blanks text k + 1) × (span ≡ from_to i next))
IsStatement text i (array_header span keys) next =
    IsTrue (stands text i open_bracket) × IsTrue (stands text (i + 1) open_bracket)
    × ((k : ℕ) × AreKeys text (after_blanks text (i + 2)) keys k
    × IsTrue (stands text (after_blanks text k) close_bracket)
    × IsTrue (stands text (after_blanks text k + 1) close_bracket)
    × (next ≡ after_blanks text k + 2) × (span ≡ from_to i next))

-- A line begins at a place, and the next one at a further place: blanks, a statement, and then nothing but blanks and a
-- comment before the line's end.
abbrev pub IsLine : List ℕ → ℕ → Statement → ℕ → Type 0
IsLine text i statement next =
    (k : ℕ) × IsStatement text (after_blanks text i) statement k × (next_line text k ≡ Some next)

-- the lines from a place up to the text's end
abbrev pub AreLines : List ℕ → ℕ → List Statement → Type 0
AreLines text i [] = i ≡ length text
AreLines text i (statement ∷ more) =
    (i < length text) × ((next : ℕ) × IsLine text i statement next × AreLines text next more)

-- the tables that some lines make, and the header whose table the next lines fill
pub record Document : Type 0 where
  pub root : Branches
  pub section : List Key

abbrev pub no_lines : Document
no_lines = record { root = unbranched; section = [] }

-- what a line makes of a document, unless the table rules refuse it
abbrev pub after_line : Statement → Document → Option Document
after_line blank_line document = Some document
after_line (pair keys span value) document =
    option_and_then (λ content.
    option_map (λ root. record { root = root; section = document.section })
    (edit_within document.section (branches_with_value keys (closed span content)) document.root)) (meant value)
after_line (table_header span keys) document =
    option_map (λ root. record { root = root; section = keys })
    (edit_along implicit through_any (open_table span) keys document.root)
after_line (array_header span keys) document =
    option_map (λ root. record { root = root; section = keys })
    (edit_along implicit through_any (open_array span) keys document.root)

-- what some lines make of a document, one after another
abbrev pub after_lines : List Statement → Document → Option Document
after_lines [] document = Some document
after_lines (statement ∷ more) document = option_and_then (after_lines more) (after_line statement document)
