-- What holds of all lists of families.
use Rattle.std.specs.Prelude.{◌≡◌, ◌↔◌, ◌≤◌, ℕ, suc, IsTrue, List, [], ◌∷◌, length, slice_get, Some, ⊤, Contains}
use Rattle.std.specs.List.{filter}
use Rattle.spdx_terms.specs.declared.term.Family.{Family}
use Rattle.spdx_terms.specs.families.Places.{same_family, places_in}

abbrev pub TestIsSameness : Type 0
TestIsSameness = (one other : Family) → IsTrue (same_family one other) ↔ (one ≡ other)

-- a number is among the places exactly where the list has the family there
abbrev pub PlacesStand : Type 0
PlacesStand =
    (family : Family) (families : List Family) (place : ℕ)
    → Contains (places_in family families) place ↔ (slice_get families place ≡ Some family)

-- there are as many places as the family is in the list
abbrev pub AsManyPlaces : Type 0
AsManyPlaces =
    (family : Family) (families : List Family)
    → length (places_in family families) ≡ length (filter (same_family family) families)

-- from a number on, each number is larger than those before it
abbrev pub RiseFrom : ℕ → List ℕ → Type 0
RiseFrom n [] = ⊤
RiseFrom n (place ∷ more) = (n ≤ place) × RiseFrom (suc place) more

abbrev pub PlacesRise : Type 0
PlacesRise = (family : Family) (families : List Family) → RiseFrom 0 (places_in family families)
