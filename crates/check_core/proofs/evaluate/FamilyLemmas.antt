-- A term's own family alone: what is at its places, and what the first that satisfies the term is.
use Rattle.std.proofs.Common.{◌≡◌, ◌∙◌, refl, sym, ap, ℕ, zero, suc, ◌+◌, ◌<◌, Bool, true, false, cond, eqb, ◌&&◌, List, [], ◌∷◌, length, drop, get_or, slice_get, arith}
use Rattle.std.specs.List.{filter}
use Rattle.std.specs.Option.{option_map_or}
use Rattle.std.proofs.lemmas.Bool.Decides.{Decides-eqb}
use Rattle.spdx_terms.specs.declared.term.Family.{Family}
use Rattle.spdx_terms.specs.declared.term.LicenseItem.{LicenseItem}
use Rattle.spdx_terms.specs.declared.term.LicenseItem.TheVariants.{Spdx, Reference}
use Rattle.spdx_terms.specs.declared.term.LicenseReq.{LicenseReq}
use Rattle.spdx_terms.specs.Terms.{family_of, item_family}
use Rattle.spdx_terms.specs.families.Places as families
use Rattle.spdx_terms.specs.families.Places.{places_in, same_family}
use Rattle.policy_parts.specs.spec.Index.{places_from, first_of}
use Rattle.policy_core.specs.valid.Satisfied.{item_satisfies, same_text, satisfies, version_satisfies}
use Rattle.policy_core.specs.valid.Policy.{Grant, first_entry, granted_licensees}
use Rattle.check_core.specs.evaluate.Entries.{families_at, families_in, granted_families, places_for}

-- ---- a licensee that satisfies a term is of its family

first_true : (a b : Bool) → (a && b) ≡ true → a ≡ true
first_true true b h = refl
first_true false b h = h

second_true : (a b : Bool) → (a && b) ≡ true → b ≡ true
second_true true b h = h
second_true false b h = absurd (cc h)

own_item : (licensee term : LicenseItem) → item_satisfies licensee term ≡ true → same_family (item_family term) (item_family licensee) ≡ true
own_item (Spdx name family rank later plus) (Spdx term_name term_family term_rank term_later term_plus) h =
    (Decides-eqb term_family family).1 (sym ((Decides-eqb family term_family).0
    (first_true (eqb family term_family) (version_satisfies rank later term_rank term_later) h)))
own_item (Spdx name family rank later plus) (Reference doc id) h = absurd (cc h)
own_item (Reference doc id) (Spdx name family rank later plus) h = absurd (cc h)
own_item (Reference doc id) (Reference term_doc term_id) h = refl

own_family : (licensee term : LicenseReq) → satisfies licensee term ≡ true → same_family (family_of term) (family_of licensee) ≡ true
own_family licensee term h =
    own_item licensee.item term.item (second_true (same_text licensee.exception term.exception) (item_satisfies licensee.item term.item) h)

-- ---- the first of a family's places is the first of the whole list

-- the licensee at a place satisfies a term
abbrev pub satisfied_at : List LicenseReq → LicenseReq → ℕ → Bool
satisfied_at licensees term place = option_map_or (λ licensee. satisfies licensee term) (slice_get licensees place) false

-- an item that passes is of the family
passing : (test own passes : Bool) (n : ℕ) (tested found : List ℕ) → test ≡ passes → (passes ≡ true → own ≡ true) → tested ≡ found
    → cond own (cond test (n ∷ tested) tested) tested ≡ cond passes (n ∷ found) found
passing test true passes n tested found is own same = ap (λ (b : Bool). cond b (n ∷ tested) tested) is ∙ ap (λ (l : List ℕ). cond passes (n ∷ l) l) same
passing test false true n tested found is own same = let never : false ≡ true = own refl in absurd (cc never)
passing test false false n tested found is own same = same

filter_either : (test : ℕ → Bool) (own : Bool) (n : ℕ) (places : List ℕ)
    → filter test (cond own (n ∷ places) places) ≡ cond own (cond (test n) (n ∷ filter test places) (filter test places)) (filter test places)
filter_either test true n places = refl
filter_either test false n places = refl

more_to_come : (n i : ℕ) → suc n + i ≡ n + suc i
more_to_come n i = omega arith

none_to_come : (n : ℕ) → n ≡ n + 0
none_to_come n = omega arith

passed : (term : LicenseReq) (test : ℕ → Bool) (n : ℕ) (licensees : List LicenseReq) → ((i : ℕ) → test (n + i) ≡ satisfied_at licensees term i)
    → filter test (families.places_from n (family_of term) (families_in licensees)) ≡ places_from n (λ (licensee : LicenseReq). satisfies licensee term) licensees
passed term test n [] tells = refl
passed term test n (licensee ∷ more) tells =
    let own = same_family (family_of term) (family_of licensee) in
    let rest = families.places_from (suc n) (family_of term) (families_in more) in
    let same = passed term test (suc n) more (λ i. ap test (more_to_come n i) ∙ tells (suc i)) in
    filter_either test own n rest
    ∙ passing (test n) own (satisfies licensee term) n (filter test rest) (places_from (suc n) (λ (one : LicenseReq). satisfies one term) more)
    (ap test (none_to_come n) ∙ tells 0) (own_family licensee term) same

from_zero : (i : ℕ) → 0 + i ≡ i
from_zero i = omega arith

pub first_of_family : (term : LicenseReq) (licensees : List LicenseReq) (places : List ℕ) → places ≡ places_for licensees term
    → first_of (filter (satisfied_at licensees term) places) ≡ first_entry licensees term
first_of_family term licensees places is =
    let test = satisfied_at licensees term in
    ap (λ (l : List ℕ). first_of (filter test l)) is ∙ ap first_of (passed term test 0 licensees (λ i. ap test (from_zero i)))

-- a place that does not pass is left behind
left_from : (test : ℕ → Bool) (places : List ℕ) (i : ℕ) → i < length places → test (get_or places i 0) ≡ false
    → first_of (filter test (drop i places)) ≡ first_of (filter test (drop (suc i) places))
left_from test [] i inside none = absurd (omega arith)
left_from test (place ∷ more) zero inside none = ap (λ (b : Bool). first_of (cond b (place ∷ filter test more) (filter test more))) none
left_from test (place ∷ more) (suc i) inside none = left_from test more i (omega arith) none

pub left_behind : (test : ℕ → Bool) (places : List ℕ) (i : ℕ) → i < length places → test (get_or places i 0) ≡ false
    → first_of (filter test (drop i places)) ≡ first_of (filter test (drop (i + 1) places))
left_behind test places i inside none =
    let next : suc i ≡ i + 1 = omega arith in left_from test places i inside none ∙ ap (λ (k : ℕ). first_of (filter test (drop k places))) next

-- ---- what an index has

families_granted : (exceptions : List Grant) (place : ℕ) → families_at (granted_families exceptions) place ≡ families_in (granted_licensees exceptions place)
families_granted [] zero = refl
families_granted [] (suc place) = refl
families_granted (first ∷ exceptions) zero = refl
families_granted (first ∷ exceptions) (suc place) = families_granted exceptions place

pub granted_places : (exceptions : List Grant) (lists : List (List Family)) (exception : ℕ) (term : LicenseReq) (family : Family) (places : List ℕ) (licensees : List LicenseReq)
    → granted_families exceptions ≡ lists → family ≡ family_of term → places ≡ places_in family (families_at lists exception) → licensees ≡ granted_licensees exceptions exception
    → places ≡ places_for licensees term
granted_places exceptions lists exception term family places licensees kept own is are =
    is
    ∙ ap (λ (f : Family). places_in f (families_at lists exception)) own
    ∙ ap (λ (ls : List (List Family)). places_in (family_of term) (families_at ls exception)) (sym kept)
    ∙ ap (places_in (family_of term)) (families_granted exceptions exception)
    ∙ ap (λ (l : List LicenseReq). places_for l term) (sym are)

pub allowed_places : (allowed : List LicenseReq) (held : List Family) (term : LicenseReq) (family : Family) (places : List ℕ) (licensees : List LicenseReq)
    → families_in allowed ≡ held → family ≡ family_of term → places ≡ places_in family held → licensees ≡ allowed → places ≡ places_for licensees term
allowed_places allowed held term family places licensees kept own is are =
    is
    ∙ ap (λ (f : Family). places_in f held) own
    ∙ ap (places_in (family_of term)) (sym kept)
    ∙ ap (λ (l : List LicenseReq). places_for l term) (sym are)
