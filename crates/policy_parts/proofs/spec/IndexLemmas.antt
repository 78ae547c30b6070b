-- Places of numbers, and the walk over those that a crate is found by.
use Rattle.std.proofs.Common.{◌≡◌, ℕ, suc, ◌+◌, ◌<◌, ◌≤◌, ◌==◌, eqb, nat_lt, Bool, true, false, ◌&&◌, ◌||◌, cond, List, [], ◌∷◌, ◌++◌, append-nil, length, slice_get, map, Option, Some, None, unwrap_or, is_some, refl, sym, ap, subst, ◌∙◌, arith}
use Rattle.std.specs.BTreeMap as tree
use Rattle.std.specs.BTreeMap.{BTreeMap, get}
use Rattle.std.specs.List.{filter}
use Rattle.std.specs.Map.{lookup}
use Rattle.std.specs.Option.{option_map_or}
use Rattle.std.specs.Ordering.{is_eq, nat_cmp}
use Rattle.std.specs.Str.{bytes_eq}
use Rattle.std.proofs.lemmas.Bool.Decides.{nat_tests}
use Rattle.std.proofs.lemmas.Slice.Eq.{bytes_eq-Decides}
use Rattle.graph_core.specs.Krate.{CrateRecord}
use Rattle.semver.specs.EvalViews.{view_op}
use Rattle.semver.specs.Parse.{Held, Parts}
use Rattle.semver.specs.declared.Op.{Op}
use Rattle.semver.specs.declared.Op.TheVariants as op
use Rattle.policy_parts.specs.spec.Index.{HasFurther, HasNumberPlaces, Numbers, candidates, exact_by, exact_of, matches_at, matching_places, name_number, number_by, places_from, places_of, put_before, spec_number, spec_numbers, union, version_number}
use Rattle.policy_parts.specs.spec.Matching.{spec_matches, version_matches}
use Rattle.policy_parts.specs.spec.Spec.{Spec}

-- ---- a further number

same_count : (n m : ℕ) → suc n + m ≡ n + suc m
same_count n m = omega arith

no_more : (n : ℕ) → n ≡ n + 0
no_more n = omega arith

none_before : (n : ℕ) → 0 + n ≡ n
none_before n = omega arith

module _ {A : Type 0} (test : A → Bool) where
  -- the place of one item at a number, where it passes
  abbrev own_place : A → ℕ → List ℕ
  own_place x n = cond (test x) (n ∷ []) []

  pub places_from-push : (n : ℕ) (xs : List A) (y : A) → places_from n test (xs ++ y ∷ []) ≡ places_from n test xs ++ own_place y (n + length xs)
  places_from-push n [] y = ap (own_place y) (no_more n)
  places_from-push n (x ∷ xs) y =
      let more : places_from (suc n) test (xs ++ y ∷ []) ≡ places_from (suc n) test xs ++ own_place y (n + suc (length xs)) =
      places_from-push (suc n) xs y ∙ ap (λ m. places_from (suc n) test xs ++ own_place y m) (same_count n (length xs)) in
      elim (test x) as (λ b. cond b (n ∷ places_from (suc n) test (xs ++ y ∷ [])) (places_from (suc n) test (xs ++ y ∷ []))
      ≡ cond b (n ∷ places_from (suc n) test xs) (places_from (suc n) test xs) ++ own_place y (n + suc (length xs))) [
        | true ↦ ap (λ places. n ∷ places) more
        | false ↦ more
      ]

-- numbers that the order ties are the same
ties : (number other : ℕ) → is_eq (nat_cmp number other) ≡ eqb other number
ties number other = grind (arith, nat_tests)

same : (number other : ℕ) → eqb number other ≡ true → number ≡ other
same number other is = grind (arith, nat_tests)

-- what a map has at a number, with one more place where the number is the new one
either : (b : Bool) (old : Option (List ℕ)) (new places : List ℕ) (n : ℕ) → (b ≡ true → new ≡ places ++ n ∷ []) → unwrap_or old [] ≡ places
    → unwrap_or (cond b (Some new) old) [] ≡ places ++ cond b (n ∷ []) []
either true old new places n is has = is refl
either false old new places n is has = has ∙ sym (append-nil places)

pub further : (before after : BTreeMap ℕ (List ℕ)) (number place : ℕ) (places : List ℕ) → tree.Updates nat_cmp before after number (Some places)
    → places ≡ unwrap_or (get nat_cmp before number) [] ++ place ∷ [] → HasFurther before after number place
further before after number place places updates is other =
    ap (λ (o : Option (List ℕ)). unwrap_or o []) (updates.0 other ∙ ap (λ (b : Bool). cond b (Some places) (get nat_cmp before other)) (ties number other))
    ∙ either (eqb other number) (get nat_cmp before other) places (unwrap_or (get nat_cmp before other) []) place
    (λ equal. is ∙ ap (λ (n : ℕ). unwrap_or (get nat_cmp before n) [] ++ place ∷ []) (sym (same other number equal))) refl

-- one more place of a number that the map has, written in its place
pub further_there : (before after : BTreeMap ℕ (List ℕ)) (number place : ℕ) (old new : List ℕ) → Some old ≡ get nat_cmp before number
    → tree.WritesThrough nat_cmp (nat_cmp number) before new after → new ≡ old ++ place ∷ [] → HasFurther before after number place
further_there before after number place old new there writes is =
    further before after number place new (writes.3 (sym (ap is_some there))) (is ∙ ap (λ (o : Option (List ℕ)). unwrap_or o [] ++ place ∷ []) there)

pub has_further : (before after : BTreeMap ℕ (List ℕ)) (numbers : List ℕ) (number : ℕ) → HasNumberPlaces before numbers → HasFurther before after number (length numbers)
    → HasNumberPlaces after (numbers ++ number ∷ [])
has_further before after numbers number has more other =
    more other ∙ ap (λ (places : List ℕ). places ++ cond (eqb other number) (length numbers ∷ []) []) (has other)
    ∙ ap (λ (n : ℕ). places_of other numbers ++ cond (eqb other number) (n ∷ []) []) (sym (none_before (length numbers)))
    ∙ sym (places_from-push (λ n. other == n) 0 numbers number)

pub has_none : (places : BTreeMap ℕ (List ℕ)) → places.entries ≡ [] → HasNumberPlaces places []
has_none places none number = ap (λ (entries : List (ℕ × List ℕ)). unwrap_or (lookup (tree.is_at (nat_cmp number)) entries) []) none

-- ---- two rising lists in one

smaller : (n m : ℕ) → n < m → nat_lt n m ≡ true
smaller n m less = grind (arith, nat_tests)

not_smaller : (n m : ℕ) → n ≤ m → nat_lt m n ≡ false
not_smaller n m less = grind (arith, nat_tests)

-- the first of a list, where it has one, is a number or a larger one
abbrev BeginsAt : ℕ → List ℕ → Type 0
BeginsAt n [] = Unit {0}
BeginsAt n (place ∷ more) = n ≤ place

begins : {A : Type 0} (test : A → Bool) (least n : ℕ) (xs : List A) → least ≤ n → BeginsAt least (places_from n test xs)
begins test least n [] less = tt
begins test least n (x ∷ xs) less =
    elim (test x) as (λ b. BeginsAt least (cond b (n ∷ places_from (suc n) test xs) (places_from (suc n) test xs))) [
      | true ↦ less
      | false ↦ begins test least (suc n) xs (omega (arith, less))
    ]

-- a place before all others of the second list
before_all : (place : ℕ) (join : List ℕ → List ℕ) (others : List ℕ) → BeginsAt (suc place) others → put_before place join others ≡ place ∷ join others
before_all place join [] first = refl
before_all place join (other ∷ others) first = rw (smaller place other (omega (arith, first))) refl

-- a place of the second list before all of the first
behind_all : (places others : List ℕ) (place : ℕ) → BeginsAt (suc place) places → union places (place ∷ others) ≡ place ∷ union places others
behind_all [] others place first = refl
behind_all (other ∷ places) others place first =
    rw (not_smaller place other (omega (arith, first))) (rw (smaller place other (omega (arith, first))) refl)

twice : (place : ℕ) (join : List ℕ → List ℕ) (others : List ℕ) → put_before place join (place ∷ others) ≡ place ∷ join others
twice place join others = rw (not_smaller place place (omega arith)) refl

module _ {A : Type 0} (one other : A → Bool) where
  -- the places that pass one test or the other
  pub union_from : (n : ℕ) (xs : List A) → union (places_from n one xs) (places_from n other xs) ≡ places_from n (λ x. one x || other x) xs
  union_from n [] = refl
  union_from n (x ∷ xs) =
      let left = places_from (suc n) one xs in
      let right = places_from (suc n) other xs in
      let more : union left right ≡ places_from (suc n) (λ x. one x || other x) xs = union_from (suc n) xs in
      elim (one x) as (λ b. union (cond b (n ∷ left) left) (cond (other x) (n ∷ right) right)
      ≡ cond (b || other x) (n ∷ places_from (suc n) (λ x. one x || other x) xs) (places_from (suc n) (λ x. one x || other x) xs)) [
        | true ↦ elim (other x) as (λ c. union (n ∷ left) (cond c (n ∷ right) right) ≡ n ∷ places_from (suc n) (λ x. one x || other x) xs) [
          | true ↦ twice n (union left) right ∙ ap (λ places. n ∷ places) more
          | false ↦ before_all n (union left) right (begins other (suc n) (suc n) xs (omega arith)) ∙ ap (λ places. n ∷ places) more
        ]
        | false ↦ elim (other x) as (λ c. union left (cond c (n ∷ right) right)
            ≡ cond c (n ∷ places_from (suc n) (λ x. one x || other x) xs) (places_from (suc n) (λ x. one x || other x) xs)) [
              | true ↦ behind_all left right n (begins one (suc n) (suc n) xs (omega arith)) ∙ ap (λ places. n ∷ places) more
              | false ↦ more
            ]
      ]

-- ---- a spec that matches a crate is found by one of its two numbers

equal : (n : ℕ) → eqb n n ≡ true
equal n = grind (arith, nat_tests)

or_second : (b : Bool) → (b || true) ≡ true
or_second true = refl
or_second false = refl

both : (a b : Bool) → (a && b) ≡ true → (a ≡ true) × (b ≡ true)
both true b is = (refl, is)
both false b is = absurd (cc)

-- the version that a comparator is for is the one that it takes
abbrev AreNumbers : Option Numbers → Parts → Type 0
AreNumbers None version = Unit {0}
AreNumbers (Some numbers) version = numbers ≡ (version.0, version.1, version.2)

three : (major minor patch : ℕ) (version : Parts) (rest : Bool) → ((version.0 == major) && (version.1 == minor) && (version.2 == patch) && rest) ≡ true
    → AreNumbers (Some (major, minor, patch)) version
three major minor patch version rest is =
    let before = both ((version.0 == major) && (version.1 == minor) && (version.2 == patch)) rest is in
    let two = both ((version.0 == major) && (version.1 == minor)) (eqb version.2 patch) before.0 in
    let one = both (eqb version.0 major) (eqb version.1 minor) two.0 in
    let a : major ≡ version.0 = sym (same version.0 major one.0) in
    let b : minor ≡ version.1 = sym (same version.1 minor one.1) in
    let c : patch ≡ version.2 = sym (same version.2 patch two.1) in
    let numbers : ℕ → ℕ → ℕ → Numbers = λ x y z. (x, y, z) in
    ap (λ n. numbers n minor patch) a ∙ ap (λ n. numbers version.0 n patch) b ∙ ap (λ n. numbers version.0 version.1 n) c

takes : (operator : Op) (major : ℕ) (minor patch : Option ℕ) (pre : List ℕ) (version : Parts)
    → view_op operator (operator, major, minor, patch, pre) version ≡ true → AreNumbers (exact_by operator major minor patch) version
takes op.Exact major (Some minor) (Some patch) pre version is = three major minor patch version _ is
takes op.Exact major (Some minor) None pre version is = tt
takes op.Exact major None patch pre version is = tt
takes op.Wildcard major minor patch pre version is = tt
takes op.Greater major minor patch pre version is = tt
takes op.GreaterEq major minor patch pre version is = tt
takes op.Less major minor patch pre version is = tt
takes op.LessEq major minor patch pre version is = tt
takes op.Tilde major minor patch pre version is = tt
takes op.Caret major minor patch pre version is = tt

meets : (requirement : Option (List Held)) (version : Parts) → version_matches requirement version ≡ true → AreNumbers (exact_of requirement) version
meets None version is = tt
meets (Some []) version is = tt
meets (Some (one ∷ other ∷ more)) version is = tt
meets (Some ((operator, major, minor, patch, pre) ∷ [])) version is =
    takes operator major minor patch pre version (both (view_op operator (operator, major, minor, patch, pre) version) true (both _ _ is).0).0

found_by : (name : List ℕ) (version : Parts) (numbers : Option Numbers) → AreNumbers numbers version
    → ((name_number name == number_by name numbers) || (version_number name (version.0, version.1, version.2) == number_by name numbers)) ≡ true
found_by name version None are = rw (equal (name_number name)) refl
found_by name version (Some numbers) are =
    ap (λ n. (name_number name == version_number name n) || (version_number name (version.0, version.1, version.2) == version_number name n)) are
    ∙ ap (λ b. (name_number name == version_number name (version.0, version.1, version.2)) || b) (equal (version_number name (version.0, version.1, version.2)))
    ∙ or_second (name_number name == version_number name (version.0, version.1, version.2))

-- whether a number is one of the two that a crate's specs are found by
abbrev is_own : CrateRecord → ℕ → Bool
is_own krate number = (name_number krate.name == number) || (version_number krate.name (krate.version.0, krate.version.1, krate.version.2) == number)

own : (krate : CrateRecord) (spec : Spec) → spec_matches spec krate ≡ true → is_own krate (spec_number spec) ≡ true
own krate spec is =
    let parts = both (bytes_eq krate.name spec.name) (version_matches spec.requirement krate.version) is in
    let named : krate.name ≡ spec.name = (bytes_eq-Decides krate.name spec.name).0 parts.0 in
    ap (λ name. is_own krate (number_by name (exact_of spec.requirement))) (sym named)
    ∙ found_by krate.name krate.version (exact_of spec.requirement) (meets spec.requirement krate.version parts.1)

-- ---- the walk over the places of those numbers

at_front : {A : Type 0} (before : List A) (x : A) (more : List A) → slice_get (before ++ x ∷ more) (length before) ≡ Some x
at_front [] x more = refl
at_front (y ∷ before) x more = at_front before x more

behind : {A : Type 0} (before : List A) (x : A) (more : List A) → (before ++ x ∷ []) ++ more ≡ before ++ x ∷ more
behind [] x more = refl
behind (y ∷ before) x more = ap (λ l. y ∷ l) (behind before x more)

one_longer : {A : Type 0} (before : List A) (x : A) → length (before ++ x ∷ []) ≡ suc (length before)
one_longer [] x = refl
one_longer (y ∷ before) x = ap suc (one_longer before x)

kept : (test : ℕ → Bool) (numbered fits : Bool) (n : ℕ) (places found : List ℕ) → test n ≡ fits → (fits ≡ true → numbered ≡ true) → filter test places ≡ found
    → filter test (cond numbered (n ∷ places) places) ≡ cond fits (n ∷ found) found
kept test true fits n places found here means more =
    ap (λ b. cond b (n ∷ filter test places) (filter test places)) here ∙ ap (λ l. cond fits (n ∷ l) l) more
kept test false true n places found here means more = absurd (let no : false ≡ true = means refl in cc)
kept test false false n places found here means more = more

-- whether the item at a place passes a test
abbrev pub passes_at : {A : Type 0} → (A → Bool) → List A → ℕ → Bool
passes_at test items place = option_map_or test (slice_get items place) false

-- the places of the numbers that are meant, by a test whose items all have such numbers
module _ {A : Type 0} (number : A → ℕ) (test : A → Bool) (is_meant : ℕ → Bool) (means : (x : A) → test x ≡ true → is_meant (number x) ≡ true) where
  pub walked : (before rest : List A) → filter (passes_at test (before ++ rest)) (places_from (length before) is_meant (map number rest)) ≡ places_from (length before) test rest
  walked before [] = refl
  walked before (x ∷ rest) =
      let n = length before in
      let more = subst (λ m. filter (passes_at test ((before ++ x ∷ []) ++ rest)) (places_from m is_meant (map number rest)) ≡ places_from m test rest) (one_longer before x) (walked (before ++ x ∷ []) rest) in
      let moved = subst (λ items. filter (passes_at test items) (places_from (suc n) is_meant (map number rest)) ≡ places_from (suc n) test rest) (behind before x rest) more in
      kept (passes_at test (before ++ x ∷ rest)) (is_meant (number x)) (test x) n
      (places_from (suc n) is_meant (map number rest)) (places_from (suc n) test rest)
      (ap (λ o. option_map_or test o false) (at_front before x rest)) (means x) moved

-- those of the candidates whose spec matches a crate are the places of all specs that match it
pub walk : (krate : CrateRecord) (specs : List Spec) → filter (matches_at specs krate) (candidates krate (spec_numbers specs)) ≡ matching_places specs krate
walk krate specs =
    ap (filter (matches_at specs krate))
    (union_from (λ number. name_number krate.name == number) (λ number. version_number krate.name (krate.version.0, krate.version.1, krate.version.2) == number) 0 (spec_numbers specs))
    ∙ walked spec_number (λ spec. spec_matches spec krate) (is_own krate) (own krate) [] specs

-- where the numbers of the index are those of the specs
pub all_walked : (krate : CrateRecord) (specs : List Spec) (numbers left : List ℕ) → spec_numbers specs ≡ numbers → left ≡ candidates krate numbers
    → filter (matches_at specs krate) left ≡ matching_places specs krate
all_walked krate specs numbers left all held =
    ap (filter (matches_at specs krate)) (held ∙ ap (candidates krate) (sym all)) ∙ walk krate specs
