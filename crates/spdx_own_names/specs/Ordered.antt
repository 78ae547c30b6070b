-- Imprecise texts in the order in which they are found: in lower case, by their bytes.
use Rattle.std.specs.Prelude.{◌≡◌, ◌<◌, ◌≤◌, ◌⊎◌, ℕ, List, map, length, take, drop, All, Contains, IsTrue}
use Rattle.std.specs.List.Sorted.{IsPermutation, IsSortedBy}
use Rattle.std.specs.Ordering.{nat_cmp, is_lt}
use Rattle.std.specs.Cmp.Lexicographic.{slice_cmp}
use Rattle.std.specs.Str.{str_to_ascii_lowercase}
use Rattle.spdx_terms.specs.catalog.Words.{ends_word}
use Rattle.spdx_own_names.specs.IndexView.{meanings_listed}
use Rattle.spdx_own_names.specs.declared.meanings.Meaning.{Meaning}

-- an imprecise text in lower case, and the licence that it means
abbrev pub lower_pair : List ℕ × List ℕ → List ℕ × List ℕ
lower_pair pair = (str_to_ascii_lowercase pair.0, pair.1)

abbrev pub AreSorted : List Meaning → Type 0
AreSorted ordered = IsSortedBy (λ a b. is_lt (slice_cmp nat_cmp a.text b.text)) ordered

-- The imprecise texts in lower case, in order, each with its licence; none is longer than so many bytes.
pub record AreInOrder (listed : List (List ℕ × List ℕ)) (ordered : List Meaning) (longest : ℕ) : Type 0 where
  pub same : IsPermutation (map lower_pair listed) (meanings_listed ordered)
  pub sorted : AreSorted ordered
  pub within : All (λ pair. length pair.0 ≤ longest) listed

-- So many bytes at the start of a text are one of them in whatever case, which means this licence, and its last word
-- ends there.
pub record Means (ordered : List Meaning) (text : List ℕ) (len : ℕ) (name : List ℕ) : Type 0 where
  pub is_listed : Contains (meanings_listed ordered) (str_to_ascii_lowercase (take len text), name)
  pub ends : IsTrue (ends_word (drop len text))

abbrev pub MeansNothing : List Meaning → List ℕ → ℕ → Type 0
MeansNothing ordered text len = (name : List ℕ) → ¬ Means ordered text len name

abbrev pub MeansSome : List Meaning → List ℕ → ℕ → Type 0
MeansSome ordered text len = (name : List ℕ) × Means ordered text len name

-- this length, where so many bytes mean a licence; else the one before
abbrev pub IsLaterOf : List Meaning → List ℕ → ℕ → ℕ → ℕ → Type 0
IsLaterOf ordered text last len later =
    (MeansSome ordered text len × (later ≡ len)) ⊎ (MeansNothing ordered text len × (later ≡ last))

-- The last length up to one at which so many bytes mean a licence, or 0.
pub record IsLastUpto (ordered : List Meaning) (text : List ℕ) (most last : ℕ) : Type 0 where
  pub within : last ≤ most
  pub longer : (len : ℕ) → last < len → len ≤ most → MeansNothing ordered text len
  pub stands : MeansSome ordered text last ⊎ (last ≡ 0)

-- up to a length nothing is meant
abbrev pub MeansNothingUpto : List Meaning → List ℕ → ℕ → Type 0
MeansNothingUpto ordered text most = (len : ℕ) → len ≤ most → MeansNothing ordered text len
