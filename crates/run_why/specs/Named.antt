-- Which crates the words of `why` name.
use Rattle.std.specs.Prelude.{ℕ, Bool, not, List, filter, find, map, Option, Some, None, if◌then◌else◌}
use Rattle.std.specs.List.{list_any}
use Rattle.graph_core.specs.declared.krate.Krate.{Krate}
use Rattle.graph_core.specs.Krate.{CrateRecord, record_of}
use Rattle.graph_core.specs.selection.Choice.{ExcludeSpecView, is_excluded, is_unsupported, read_one}

-- A word names the crates that it would leave out as a spec of `--exclude`; an unreadable one names none.
abbrev pub names : List ℕ → CrateRecord → Bool
names word krate = is_excluded (read_one word) krate

abbrev pub is_named : List (List ℕ) → CrateRecord → Bool
is_named words krate = list_any (λ word. names word krate) words

-- all crates that some word names, in their order, each once
abbrev pub named_among : List (List ℕ) → List CrateRecord → List CrateRecord
named_among words crates = filter (is_named words) crates

-- the first word that names none of some crates
abbrev pub first_unknown : List (List ℕ) → List CrateRecord → Option (List ℕ)
first_unknown words crates = find (λ word. not (list_any (names word) crates)) words

-- one that was found before, else this one where it names none
abbrev pub unknown_or : Option (List ℕ) → List ℕ → List CrateRecord → Option (List ℕ)
unknown_or (Some before) word crates = Some before
unknown_or None word crates = if not (list_any (names word) crates) then Some word else None

-- a word with a `/` or a `#` is not carried
abbrev pub has_unsupported : List (List ℕ) → Bool
has_unsupported words = list_any is_unsupported words

-- ---- of crates as they are kept

-- whether specs name a crate
abbrev pub named_by : List ExcludeSpecView → Krate → Bool
named_by specs krate = is_excluded specs (record_of krate)

abbrev pub marks_of : List ExcludeSpecView → List Krate → List Bool
marks_of specs krates = map (named_by specs) krates
