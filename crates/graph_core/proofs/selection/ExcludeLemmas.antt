-- Specs that are found in order are those that leave a crate out.
use Rattle.std.proofs.Common.{◌≡◌, ◌∙◌, refl, sym, ap, ap₂, ℕ, zero, suc, ◌<◌, ◌≤◌, Bool, true, false, ◌&&◌, ◌||◌, ◌==◌, leb, leb-true, List, [], ◌∷◌, length, get_or, map, Option, Some, None, Result, Ok, Err, arith}
use Rattle.std.specs.Prelude.{is_ok, bytes_eq}
use Rattle.std.specs.List.{list_any, HoldsAt}
use Rattle.std.specs.List.Sorted.{IsSearchInRange, IsBinarySearchResult, IsNonDecreasingBy, IsSortedBy}
use Rattle.std.specs.Ordering.{nat_cmp, is_lt, is_eq, ordering_then, ordering_index}
use Rattle.std.specs.Cmp.{IsTotalOrder}
use Rattle.std.specs.Cmp.Lexicographic.{slice_cmp, lists_total, nat_list_cmp_total}
use Rattle.std.specs.declared.cmp.Ordering.{Ordering}
use Rattle.std.specs.declared.cmp.Ordering.TheVariants.{Less, Equal, Greater}
use Rattle.std.proofs.lemmas.Bool.Decides.{nat_tests}
use Rattle.std.proofs.lemmas.Cmp.{same_from_slice_cmp}
use Rattle.std.proofs.lemmas.List.Sorted.{searchable_from_sorted}
use Rattle.graph_core.specs.Krate.{CrateRecord, Version}
use Rattle.graph_core.specs.declared.selection.exclude.ExcludeSpec.{ExcludeSpec}
use Rattle.graph_core.specs.selection.Choice.{ExcludeSpecView, exclude_spec_of, excludes, is_excluded, same_version, fits}
use Rattle.graph_core.specs.selection.ExcludeOrder.{version_key, key_with, key_of, key_order, key_behind, AreSorted, AreInSearchOrder}
use Rattle.std.specs.Borrow.{Bor}

-- ---- what a search finds

or_true : (b : Bool) → (b || true) ≡ true
or_true true = refl
or_true false = refl

any_at : {X : Type 0} (test : X → Bool) (xs : List X) (i : ℕ) → i < length xs → ((d : X) → test (get_or xs i d) ≡ true) → list_any test xs ≡ true
any_at test [] i within here = absurd (omega arith)
any_at test (x ∷ xs) zero within here = ap (λ b. b || list_any test xs) (here x)
any_at test (x ∷ xs) (suc i) within here = ap (λ b. test x || b) (any_at test xs i (omega arith) here) ∙ or_true (test x)

any_none : {X : Type 0} (test : X → Bool) (xs : List X) → ((k : ℕ) (d : X) → k < length xs → test (get_or xs k d) ≡ false) → list_any test xs ≡ false
any_none test [] none = refl
any_none test (x ∷ xs) none = ap₂ (λ a b. a || b) (none 0 x (omega arith)) (any_none test xs (λ k d within. none (suc k) d (omega arith)))

-- a search finds something exactly where something is equal
pub any_from_search : {X : Type 0} (order : X → Ordering) (xs : List X) (r : Result ℕ ℕ) → IsSearchInRange r (length xs) → IsBinarySearchResult order xs r → IsNonDecreasingBy (λ x. ordering_index (order x)) xs → is_ok r ≡ list_any (λ x. is_eq (order x)) xs
any_from_search order xs (Ok i) within equal rises = sym (any_at (λ x. is_eq (order x)) xs i within (λ d. ap is_eq (equal d)))
any_from_search {X} order xs (Err i) within parts rises = sym (any_none (λ x. is_eq (order x)) xs none)
  where
    none : (k : ℕ) (d : X) → k < length xs → is_eq (order (get_or xs k d)) ≡ false
    none k d inside = by (leb i k) refl
      where
        by : (b : Bool) → leb i k ≡ b → is_eq (order (get_or xs k d)) ≡ false
        by true is = ap is_eq ((parts rises).1 k d (leb-true i k is) inside)
        by false is =
            let early : k < i = grind (arith, nat_tests) in
            ap is_eq ((parts rises).0 k d (omega arith) early)

pub key_order_total : IsTotalOrder key_order
key_order_total = lists_total nat_list_cmp_total

pub sorted_rises : (refs : List (Bor ExcludeSpec)) (key : List (List ℕ)) → AreSorted refs → IsNonDecreasingBy (λ spec. ordering_index (key_order (key_behind spec) key)) refs
sorted_rises refs key sorted = searchable_from_sorted key_order_total key_behind refs key sorted

-- ---- equal keys

is_eq-then : (a b : Ordering) → is_eq (ordering_then a b) ≡ (is_eq a && is_eq b)
is_eq-then Less b = refl
is_eq-then Equal b = refl
is_eq-then Greater b = refl

then_equal : (a : Ordering) → ordering_then a Equal ≡ a
then_equal Less = refl
then_equal Equal = refl
then_equal Greater = refl

same_number : (a b : ℕ) → is_eq (nat_cmp a b) ≡ (a == b)
same_number a b = grind (arith, nat_tests)

same_text : (a b : List ℕ) → is_eq (slice_cmp nat_cmp a b) ≡ bytes_eq a b
same_text a b = same_from_slice_cmp nat_cmp is_eq bytes_eq refl (λ _ _. refl) (λ _ _. refl) (λ x y xs ys o h. grind (arith, nat_tests)) a b (slice_cmp nat_cmp a b) refl

-- the order of versions, number by number and text by text
pub versions_chain : (a b c d e : Ordering) → ordering_then (ordering_then a (ordering_then b c)) (ordering_then d e)
    ≡ ordering_then (ordering_then a Equal) (ordering_then (ordering_then b Equal) (ordering_then (ordering_then c Equal) (ordering_then d (ordering_then e Equal))))
versions_chain Less b c d e = refl
versions_chain Greater b c d e = refl
versions_chain Equal Less c d e = refl
versions_chain Equal Greater c d e = refl
versions_chain Equal Equal Less d e = refl
versions_chain Equal Equal Greater d e = refl
versions_chain Equal Equal Equal Less e = refl
versions_chain Equal Equal Equal Greater e = refl
versions_chain Equal Equal Equal Equal Less = refl
versions_chain Equal Equal Equal Equal Equal = refl
versions_chain Equal Equal Equal Equal Greater = refl

all_same : (a b c d e : Ordering) → is_eq (ordering_then (ordering_then a (ordering_then b c)) (ordering_then d e)) ≡ (is_eq a && (is_eq b && (is_eq c && (is_eq d && is_eq e))))
all_same Less b c d e = refl
all_same Greater b c d e = refl
all_same Equal Less c d e = refl
all_same Equal Greater c d e = refl
all_same Equal Equal Less d e = refl
all_same Equal Equal Greater d e = refl
all_same Equal Equal Equal Less e = refl
all_same Equal Equal Equal Greater e = refl
all_same Equal Equal Equal Equal e = refl

same_versions : (a b : Version) → is_eq (key_order (version_key (Some a)) (version_key (Some b))) ≡ same_version a b
same_versions a b =
    ap is_eq (sym (versions_chain (nat_cmp a.0 b.0) (nat_cmp a.1 b.1) (nat_cmp a.2 b.2) (slice_cmp nat_cmp a.3 b.3) (slice_cmp nat_cmp a.4 b.4)))
    ∙ all_same (nat_cmp a.0 b.0) (nat_cmp a.1 b.1) (nat_cmp a.2 b.2) (slice_cmp nat_cmp a.3 b.3) (slice_cmp nat_cmp a.4 b.4)
    ∙ ap₂ (λ p q. p && q) (same_number a.0 b.0) (ap₂ (λ p q. p && q) (same_number a.1 b.1) (ap₂ (λ p q. p && q) (same_number a.2 b.2) (ap₂ (λ p q. p && q) (same_text a.3 b.3) (same_text a.4 b.4))))

-- ---- a spec leaves a crate out where it has the crate's name and no version, or its version

any_version : (order : Ordering) → (is_eq order && true) ≡ (is_eq (ordering_then order Equal) || is_eq (ordering_then order Less))
any_version Less = refl
any_version Equal = refl
any_version Greater = refl

one_version : (order other : Ordering) → (is_eq order && is_eq other) ≡ (is_eq (ordering_then order Greater) || is_eq (ordering_then order other))
one_version Less other = refl
one_version Equal other = refl
one_version Greater other = refl

excludes_by : (name own : List ℕ) (version : Option Version) (its : Version)
    → (bytes_eq name own && fits version its) ≡ (is_eq (key_order (key_with name version) (key_with own None)) || is_eq (key_order (key_with name version) (key_with own (Some its))))
excludes_by name own None its = ap (λ b. b && true) (sym (same_text name own)) ∙ any_version (slice_cmp nat_cmp name own)
excludes_by name own (Some version) its =
    ap₂ (λ p q. p && q) (sym (same_text name own)) (sym (same_versions version its))
    ∙ one_version (slice_cmp nat_cmp name own) (key_order (version_key (Some version)) (version_key (Some its)))

or_swap : (a b c d : Bool) → ((a || b) || (c || d)) ≡ ((a || c) || (b || d))
or_swap true b c d = refl
or_swap false true true d = refl
or_swap false true false d = refl
or_swap false false c d = refl

any_or : {X : Type 0} (p q : X → Bool) (xs : List X) → list_any (λ x. p x || q x) xs ≡ (list_any p xs || list_any q xs)
any_or p q [] = refl
any_or p q (x ∷ xs) = ap (λ b. (p x || q x) || b) (any_or p q xs) ∙ or_swap (p x) (q x) (list_any p xs) (list_any q xs)

any_same : {X : Type 0} (p q : X → Bool) → ((x : X) → p x ≡ q x) → (xs : List X) → list_any p xs ≡ list_any q xs
any_same p q same [] = refl
any_same p q same (x ∷ xs) = ap₂ (λ a b. a || b) (same x) (any_same p q same xs)

pub any_map : {A B : Type 0} (f : A → B) (test : B → Bool) (xs : List A) → list_any (λ x. test (f x)) xs ≡ list_any test (map f xs)
any_map f test [] = refl
any_map f test (x ∷ xs) = ap (λ b. test (f x) || b) (any_map f test xs)

pub excluded_from_finds : (specs : List ExcludeSpec) (refs : List (Bor ExcludeSpec)) (krate : CrateRecord) → AreInSearchOrder specs refs
    → (list_any (λ spec. is_eq (key_order (key_behind spec) (key_with krate.name None))) refs || list_any (λ spec. is_eq (key_order (key_behind spec) (key_with krate.name (Some krate.version)))) refs) ≡ is_excluded (map exclude_spec_of specs) krate
excluded_from_finds specs refs krate ordered =
    let any : Bor ExcludeSpec → Bool = λ spec. is_eq (key_order (key_behind spec) (key_with krate.name None)) in
    let own : Bor ExcludeSpec → Bool = λ spec. is_eq (key_order (key_behind spec) (key_with krate.name (Some krate.version))) in
    sym (any_or any own refs)
    ∙ any_same (λ spec. any spec || own spec) (λ spec. excludes (exclude_spec_of spec.now) krate) (λ spec. sym (excludes_by spec.now.name krate.name (exclude_spec_of spec.now).version krate.version)) refs
    ∙ ordered.same (λ spec. excludes (exclude_spec_of spec) krate)
    ∙ any_map exclude_spec_of (λ spec. excludes spec krate) specs
