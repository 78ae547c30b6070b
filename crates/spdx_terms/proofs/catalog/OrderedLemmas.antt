-- Licences put in the order of their names: what is known of a name stays the same.
use Rattle.std.proofs.Common.{◌≡◌, ◌∙◌, refl, sym, ap, subst, T, Bool, true, false, cond, ◌&&◌, ℕ, List, [], ◌∷◌, Option, Some}
use Rattle.std.specs.List.{AllByRecursion}
use Rattle.std.specs.List.Sorted.{IsStrictlySortedBy}
use Rattle.std.specs.Str.{bytes_eq}
use Rattle.std.specs.Ordering.{is_lt, ordering_reverse}
use Rattle.std.specs.declared.cmp.Ordering.{Ordering}
use Rattle.std.specs.declared.cmp.Ordering.TheVariants.{Less, Equal, Greater}
use Rattle.std.proofs.lemmas.Slice.Eq.{bytes_eq-Decides}
use Rattle.spdx_terms.specs.declared.catalog.catalog.LicenseEntry.{LicenseEntry}
use Rattle.spdx_terms.specs.catalog.Catalog.{entry_of}
use Rattle.spdx_terms.specs.catalog.NameOrder.{name_order}
use Rattle.spdx_terms.proofs.catalog.NameLemmas.{apart, name_order_total}

less_from_test : (order : Ordering) → is_lt order ≡ true → order ≡ Less
less_from_test Less is = refl
less_from_test Equal is = absurd (subst T (sym is) tt)
less_from_test Greater is = absurd (subst T (sym is) tt)

-- ---- a list that rises

-- each name is before the next, from this one on
abbrev pub rise_from : List ℕ → List (List ℕ) → Bool
rise_from name [] = true
rise_from name (next ∷ names) = is_lt (name_order name next) && rise_from next names

abbrev pub names_rise : List (List ℕ) → Bool
names_rise [] = true
names_rise (name ∷ names) = rise_from name names

both : (a b : Bool) → (a && b) ≡ true → (a ≡ true) × (b ≡ true)
both true b is = (refl, is)
both false b is = absurd (subst T (sym is) tt)

all_behind : (low name : List ℕ) (names : List (List ℕ)) → name_order low name ≡ Less → AllByRecursion (λ y. name_order name y ≡ Less) names → AllByRecursion (λ y. name_order low y ≡ Less) names
all_behind low name [] less all = tt
all_behind low name (x ∷ names) less all = (name_order_total.trans low name x less all.0, all_behind low name names less all.1)

from_rise : (name : List ℕ) (names : List (List ℕ)) → rise_from name names ≡ true → AllByRecursion (λ y. name_order name y ≡ Less) names × IsStrictlySortedBy name_order names
unfolding IsStrictlySortedBy
from_rise name [] rise = (tt, tt)
from_rise name (next ∷ names) rise =
    let parts = both (is_lt (name_order name next)) (rise_from next names) rise in
    let less : name_order name next ≡ Less = less_from_test (name_order name next) parts.0 in
    let rest = from_rise next names parts.1 in
    ((less, all_behind name next names less rest.0), rest)

pub sorted_from_rise : (names : List (List ℕ)) → names_rise names ≡ true → IsStrictlySortedBy name_order names
unfolding IsStrictlySortedBy
sorted_from_rise [] rise = tt
sorted_from_rise (name ∷ names) rise = from_rise name names rise

-- ---- a list that is put in order

abbrev pub with_license : List ℕ × LicenseEntry → List (List ℕ × LicenseEntry) → List (List ℕ × LicenseEntry)
with_license p [] = p ∷ []
with_license p (q ∷ licenses) = cond (is_lt (name_order q.0 p.0)) (q ∷ with_license p licenses) (p ∷ q ∷ licenses)

abbrev pub in_order : List (List ℕ × LicenseEntry) → List (List ℕ × LicenseEntry)
in_order [] = []
in_order (p ∷ licenses) = with_license p (in_order licenses)

swapped : {X : Type 0} (p q : List ℕ × X) (rest : Option X) (name : List ℕ) → name_order q.0 p.0 ≡ Less
    → cond (bytes_eq name q.0) (Some q.1) (cond (bytes_eq name p.0) (Some p.1) rest) ≡ cond (bytes_eq name p.0) (Some p.1) (cond (bytes_eq name q.0) (Some q.1) rest)
swapped p q rest name less = by (bytes_eq name p.0) refl
  where
    by : (b : Bool) → bytes_eq name p.0 ≡ b → cond (bytes_eq name q.0) (Some q.1) (cond (bytes_eq name p.0) (Some p.1) rest) ≡ cond (bytes_eq name p.0) (Some p.1) (cond (bytes_eq name q.0) (Some q.1) rest)
    by false is = rw is refl
    by true is =
        let same : name ≡ p.0 = (bytes_eq-Decides name p.0).0 is in
        let greater : name_order p.0 q.0 ≡ Greater = name_order_total.antisymm p.0 q.0 ∙ ap ordering_reverse less in
        let other : bytes_eq name q.0 ≡ false = apart name q.0 Greater (ap (λ k. name_order k q.0) same ∙ greater) refl in
        rw (is, other) refl

entry_of-with_license : (p : List ℕ × LicenseEntry) (licenses : List (List ℕ × LicenseEntry)) (name : List ℕ) → entry_of (with_license p licenses) name ≡ entry_of (p ∷ licenses) name
entry_of-with_license p [] name = refl
entry_of-with_license p (q ∷ licenses) name = by (is_lt (name_order q.0 p.0)) refl (entry_of-with_license p licenses name)
  where
    by : (b : Bool) → is_lt (name_order q.0 p.0) ≡ b → entry_of (with_license p licenses) name ≡ entry_of (p ∷ licenses) name
        → entry_of (cond b (q ∷ with_license p licenses) (p ∷ q ∷ licenses)) name ≡ entry_of (p ∷ q ∷ licenses) name
    by false is rest = refl
    by true is rest =
        ap (λ found. cond (bytes_eq name q.0) (Some q.1) found) rest
        ∙ swapped p q (entry_of licenses name) name (less_from_test (name_order q.0 p.0) is)

pub entry_of-in_order : (licenses : List (List ℕ × LicenseEntry)) (name : List ℕ) → entry_of (in_order licenses) name ≡ entry_of licenses name
entry_of-in_order [] name = refl
entry_of-in_order (p ∷ licenses) name =
    entry_of-with_license p (in_order licenses) name ∙ ap (λ rest. cond (bytes_eq name p.0) (Some p.1) rest) (entry_of-in_order licenses name)
