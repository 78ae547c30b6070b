-- A map from families to their places. Only the contracts of private calls cite it.
use Rattle.std.specs.Prelude.{◌≡◌, ◌<◌, ℕ, List, [], ◌∷◌, ◌++◌, length, if◌then◌else◌, unwrap_or}
use Rattle.std.specs.BTreeMap.{BTreeMap}
use Rattle.std.specs.BTreeMap as tree
use Rattle.spdx_terms.specs.declared.term.Family.{Family}
use Rattle.spdx_terms.specs.contracts.term.FamilyOrd.TheImpl as family_order
use Rattle.spdx_terms.specs.families.Places.{same_family, places_in}

abbrev pub FamilyMap : Type 0
FamilyMap = BTreeMap Family (List ℕ)

-- the places that a map has of a family
abbrev pub places_at : FamilyMap → Family → List ℕ
places_at map family = unwrap_or (tree.get family_order.ghosts.cmp map family) []

-- a map has the places of each family
abbrev pub HasFamilyPlaces : FamilyMap → List Family → Type 0
HasFamilyPlaces map families = (family : Family) → places_at map family ≡ places_in family families

-- One family, or none, needs no map.
abbrev pub IsIndex : FamilyMap → List Family → Type 0
IsIndex map families = 1 < length families → HasFamilyPlaces map families

-- a map has one more place of a family, and else what it had
abbrev pub HasFurther : FamilyMap → FamilyMap → Family → ℕ → Type 0
HasFurther before after family place = (other : Family)
    → places_at after other ≡ places_at before other ++ (if same_family other family then place ∷ [] else [])

abbrev pub HasSame : FamilyMap → FamilyMap → Type 0
HasSame before after = (family : Family) → places_at after family ≡ places_at before family
