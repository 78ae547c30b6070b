-- Maps from texts, in the byte order of the texts.
use Rattle.std.specs.Prelude.{ℕ, List, map, String, string_bytes, if◌then◌else◌}
use Rattle.std.specs.Ordering.{nat_cmp}
use Rattle.std.specs.Cmp.Lexicographic.{slice_cmp}
use Rattle.std.specs.declared.cmp.Ordering.{Ordering}
use Rattle.std.specs.FinMap.{FinMap, contains_key, insert}
use Rattle.std.specs.Global.{Global}

-- a map from texts, as their bytes, to values
abbrev pub TextMapTo : Type 0 → Type 0
TextMapTo V = FinMap (slice_cmp nat_cmp) V

-- the map with another value at the key, where it has one
abbrev pub with_value : {K V : Type 0} {R : K → K → Ordering} → FinMap R V → K → V → FinMap R V
with_value m key value = if contains_key m key then insert m key value else m

-- the entries with their keys as texts
abbrev pub entries_of_held : {V : Type 0} → List (String Global × V) → List (List ℕ × V)
entries_of_held entries = map (λ entry. (string_bytes entry.0, entry.1)) entries
