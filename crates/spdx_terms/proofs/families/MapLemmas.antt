-- What a map has of families, with one more place.
use Rattle.std.proofs.Common.{◌≡◌, ◌∙◌, refl, sym, ap, subst, ℕ, ◌<◌, Bool, true, false, cond, eqb, List, [], ◌∷◌, ◌++◌, append-nil, length, get_or, Option, Some, Result, Ok, Err, OnErr, unwrap_or, is_some, arith}
use Rattle.std.specs.BTreeMap as tree
use Rattle.std.specs.Map.{lookup}
use Rattle.std.specs.Ordering.{is_eq, nat_cmp}
use Rattle.std.proofs.lemmas.Bool.Decides.{nat_tests}
use Rattle.spdx_terms.specs.contracts.term.FamilyOrd.TheImpl as family_order
use Rattle.spdx_terms.specs.declared.term.Family.{Family}
use Rattle.spdx_terms.specs.declared.term.Family.TheVariants.{Spdx as of_licenses, Reference as of_references}
use Rattle.spdx_terms.specs.families.Map.{FamilyMap, HasFamilyPlaces, HasFurther, HasSame, IsIndex, places_at}
use Rattle.spdx_terms.specs.families.Places.{same_family}
use Rattle.spdx_terms.proofs.families.PlaceLemmas.{decides, places_in-push}

-- families that the order ties are the same
nat_ties : (n m : ℕ) → is_eq (nat_cmp n m) ≡ eqb m n
nat_ties n m = grind (arith, nat_tests)

pub ties : (one other : Family) → is_eq (family_order.ghosts.cmp one other) ≡ same_family other one
ties (of_licenses one) (of_licenses other) = nat_ties one other
ties (of_licenses one) of_references = refl
ties of_references (of_licenses other) = refl
ties of_references of_references = refl

either : (b : Bool) (old : Option (List ℕ)) (new places : List ℕ) (place : ℕ) → (b ≡ true → new ≡ places ++ place ∷ []) → unwrap_or old [] ≡ places
    → unwrap_or (cond b (Some new) old) [] ≡ places ++ cond b (place ∷ []) []
either true old new places place is has = is refl
either false old new places place is has = has ∙ sym (append-nil places)

-- the places of a family with one more of them
pub further : (before after : FamilyMap) (family : Family) (place : ℕ) (places : List ℕ) → tree.Updates family_order.ghosts.cmp before after family (Some places)
    → places ≡ places_at before family ++ place ∷ [] → HasFurther before after family place
further before after family place places updates is other =
    ap (λ (o : Option (List ℕ)). unwrap_or o []) (updates.0 other ∙ ap (λ (b : Bool). cond b (Some places) (tree.get family_order.ghosts.cmp before other)) (ties family other))
    ∙ either (same_family other family) (tree.get family_order.ghosts.cmp before other) places (places_at before other) place
    (λ same. is ∙ ap (λ (f : Family). places_at before f ++ place ∷ []) (sym ((decides other family).0 same))) refl

-- one more place of a family that the map has, written in its place
pub further_there : (before after : FamilyMap) (family : Family) (place : ℕ) (old new : List ℕ) → Some old ≡ tree.get family_order.ghosts.cmp before family
    → tree.WritesThrough family_order.ghosts.cmp (family_order.ghosts.cmp family) before new after → new ≡ old ++ place ∷ [] → HasFurther before after family place
further_there before after family place old new there writes is =
    further before after family place new (writes.3 (sym (ap is_some there))) (is ∙ ap (λ (o : Option (List ℕ)). unwrap_or o [] ++ place ∷ []) there)

-- what the map has of a family, written in its place
either_same : (b : Bool) (old : Option (List ℕ)) (places : List ℕ) → (b ≡ true → Some places ≡ old) → unwrap_or (cond b (Some places) old) [] ≡ unwrap_or old []
either_same true old places is = ap (λ (o : Option (List ℕ)). unwrap_or o []) (is refl)
either_same false old places is = refl

pub same_there : (before after : FamilyMap) (family : Family) (old new : List ℕ) → Some old ≡ tree.get family_order.ghosts.cmp before family
    → tree.WritesThrough family_order.ghosts.cmp (family_order.ghosts.cmp family) before new after → new ≡ old → HasSame before after
same_there before after family old new there writes is other =
    ap (λ (o : Option (List ℕ)). unwrap_or o [])
    ((writes.3 (sym (ap is_some there))).0 other ∙ ap (λ (b : Bool). cond b (Some new) (tree.get family_order.ghosts.cmp before other)) (ties family other))
    ∙ either_same (same_family other family) (tree.get family_order.ghosts.cmp before other) new
    (λ same. ap Some is ∙ there ∙ ap (tree.get family_order.ghosts.cmp before) (sym ((decides other family).0 same)))

-- a family behind the others
pub has_further : (before after : FamilyMap) (families : List Family) (family : Family) → HasFamilyPlaces before families → HasFurther before after family (length families)
    → HasFamilyPlaces after (families ++ family ∷ [])
has_further before after families family has more other =
    more other ∙ ap (λ (places : List ℕ). places ++ cond (same_family other family) (length families ∷ []) []) (has other) ∙ sym (places_in-push other families family)

-- the map of no family, and of two
pub has_none : (map : FamilyMap) → map.entries ≡ [] → HasFamilyPlaces map []
has_none map none other = ap (λ (entries : List (Family × List ℕ)). unwrap_or (lookup (tree.is_at (family_order.ghosts.cmp other)) entries) []) none

pub has_two : (none one two : FamilyMap) (first second : Family) → none.entries ≡ [] → HasFurther none one first 0 → HasFurther one two second 1 → HasFamilyPlaces two (first ∷ second ∷ [])
has_two none one two first second empty one_more two_more =
    has_further one two (first ∷ []) second (has_further none one [] first (has_none none empty) one_more) two_more

-- what is so is so of an error
pub of_error : {T E : Type 0} (result : Result T E) (P : Type 0) → P → OnErr result P
of_error (Ok value) P is = tt
of_error (Err error) P is = is

-- ---- an index

pub first_index : (map : FamilyMap) (families : List Family) (family : Family) → length families ≡ 0 → IsIndex map (families ++ family ∷ [])
first_index map [] family none many = absurd (omega (arith, many))
first_index map (here ∷ more) family none many = absurd (omega (arith, none))

pub second_index : (map : FamilyMap) (families : List Family) (first family : Family) → length families ≡ 1 → first ≡ get_or families 0 first
    → HasFamilyPlaces map (first ∷ family ∷ []) → IsIndex map (families ++ family ∷ [])
second_index map [] first family one is has many = absurd (omega (arith, one))
second_index map (here ∷ []) first family one is has many = subst (λ (f : Family). HasFamilyPlaces map (f ∷ family ∷ [])) is has
second_index map (here ∷ other ∷ more) first family one is has many = absurd (omega (arith, one))

pub more_index : (before after : FamilyMap) (families : List Family) (family : Family) → 1 < length families → IsIndex before families → HasFurther before after family (length families)
    → IsIndex after (families ++ family ∷ [])
more_index before after families family few index more many = has_further before after families family (index few) more

pub same_index : (before after : FamilyMap) (families : List Family) → HasSame before after → IsIndex before families → IsIndex after families
same_index before after families same index many family = same family ∙ index many family
