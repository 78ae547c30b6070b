-- Recorded entries and terms: what the tests of them say, and what the policy's hits are.
use Rattle.std.proofs.Common.{◌≡◌, ◌∙◌, refl, sym, ap, subst, inl, inr, ℕ, zero, suc, ◌+◌, ◌<◌, Bool, true, false, true≢false, cond, ◌&&◌, ◌||◌, List, [], ◌∷◌, length, map, slice_get, Option, Some, None, is_some, option_map, arith}
use Rattle.std.specs.List.{AllByRecursion, AllZip, list_all, list_any}
use Rattle.std.specs.Option.{option_map_or, option_or}
use Rattle.std.proofs.lemmas.Bool.{or_parts}
use Rattle.spdx_terms.specs.declared.term.ExpressionReq.{ExpressionReq}
use Rattle.spdx_terms.specs.declared.term.LicenseReq.{LicenseReq}
use Rattle.spdx_core.specs.declared.certificates.verdict.Hit.{Hit}
use Rattle.spdx_core.specs.declared.certificates.verdict.Hit.TheVariants.{Allowed, Exception}
use Rattle.spdx_core.specs.certificates.Certificates.{has_hit, hit_at}
use Rattle.policy_parts.specs.spec.Index.{first_of, places_from}
use Rattle.policy_core.specs.valid.Policy.{Policy, exception_hit, first_entry, granted_hit, granted_licensees, hit_of}
use Rattle.policy_core.specs.valid.Satisfied.{satisfies}
use Rattle.policy_core.proofs.valid.SatisfiedLemmas.{decides}
use Rattle.check_core.specs.evaluate.Evaluation.{term_hits}
use Rattle.check_core.proofs.evaluate.PlaceLemmas.{found}
use Rattle.check_verify.specs.Right.{AllowsTerm, HasEntry, HasNoEntry, SatisfiesAt}
use Rattle.check_verify.specs.Terms.{are_allowed, hit_or_none_by, is_allowed_by, is_among, satisfies_at}
use Rattle.check_verify.proofs.Choices.{Has, among_has, and_parts, has_among}
use Rattle.check_verify.proofs.LawLemmas.{contains_has, has_contains}

-- ---- what is there

pub some_is : {A : Type 0} (x y : A) → Some x ≡ Some y → x ≡ y
some_is x y e = cc

pub none_apart : {A : Type 0} (x : A) → None ≡ Some x → ⊥
none_apart x e = absurd cc

pub same_head : {A : Type 0} (x y : A) (xs ys : List A) → x ∷ xs ≡ y ∷ ys → x ≡ y
same_head x y xs ys e = cc

pub same_tail : {A : Type 0} (x y : A) (xs ys : List A) → x ∷ xs ≡ y ∷ ys → xs ≡ ys
same_tail x y xs ys e = cc

pub nil_apart : {A : Type 0} (x : A) (xs : List A) → x ∷ xs ≡ [] → ⊥
nil_apart x xs e = absurd cc

none_is : {A : Type 0} (found : Option A) → is_some found ≡ false → found ≡ None
none_is None e = refl
none_is (Some x) e = absurd (true≢false e)

both_true : (a b : Bool) → a ≡ true → b ≡ true → (a && b) ≡ true
both_true true b e f = f
both_true false b e f = absurd (true≢false (sym e))

both_false : (a b : Bool) → a ≡ false → b ≡ false → (a || b) ≡ false
both_false true b e f = absurd (true≢false e)
both_false false b e f = f

-- ---- the first item that passes a test

abbrev FirstAt : {A : Type 0} → (A → Bool) → ℕ → ℕ → List A → Type 0
FirstAt {A} test n i xs = (item : A) × (place : ℕ) × (slice_get xs place ≡ Some item) × (test item ≡ true) × (i ≡ n + place)

module _ {A : Type 0} (test : A → Bool) where
  first_by : (n i : ℕ) (x : A) (xs : List A) (b : Bool) → test x ≡ b → (first_of (places_from (suc n) test xs) ≡ Some i → FirstAt test (suc n) i xs)
      → first_of (cond b (n ∷ places_from (suc n) test xs) (places_from (suc n) test xs)) ≡ Some i → FirstAt test n i (x ∷ xs)
  first_by n i x xs true is more h = let same : n ≡ i = some_is n i h in (x, 0, refl, is, omega (arith, same))
  first_by n i x xs false is more h =
      let rest = more h in
      let at : i ≡ suc n + rest.1 = rest.4 in
      (rest.0, suc rest.1, rest.2, rest.3, omega (arith, at))

  first_at : (n i : ℕ) (xs : List A) → first_of (places_from n test xs) ≡ Some i → FirstAt test n i xs
  first_at n i [] h = absurd (none_apart i h)
  first_at n i (x ∷ xs) h = first_by n i x xs (test x) refl (λ more. first_at (suc n) i xs more) h

  -- some item does where one does
  any_at : (xs : List A) (place : ℕ) (x : A) → slice_get xs place ≡ Some x → test x ≡ true → list_any test xs ≡ true
  any_at [] place x is e = absurd (none_apart x is)
  any_at (y ∷ xs) zero x is e = ap (λ (b : Bool). b || list_any test xs) (ap test (some_is y x is) ∙ e)
  any_at (y ∷ xs) (suc place) x is e = or_right (test y) (list_any test xs) (any_at xs place x is e)
    where
      or_right : (a b : Bool) → b ≡ true → (a || b) ≡ true
      or_right true b same = refl
      or_right false b same = same

-- ---- licensees of a list

entry_at : (licensees : List LicenseReq) (term : LicenseReq) (entry : ℕ) → first_entry licensees term ≡ Some entry → SatisfiesAt licensees entry term
entry_at licensees term entry h =
    let test : LicenseReq → Bool = λ licensee. satisfies licensee term in
    let first = first_at test 0 entry licensees h in
    let is : entry ≡ 0 + first.1 = first.4 in
    let place : first.1 ≡ entry = omega (arith, is) in
    record {
      licensee = first.0;
      is_there = subst (λ (n : ℕ). slice_get licensees n ≡ Some first.0) place first.2;
      satisfies = (decides first.0 term).0 first.3;
    }

some_entry : (licensees : List LicenseReq) (term : LicenseReq) (entry : ℕ) → SatisfiesAt licensees entry term → is_some (first_entry licensees term) ≡ true
some_entry licensees term entry at =
    let test : LicenseReq → Bool = λ licensee. satisfies licensee term in
    found test 0 licensees ∙ any_at test licensees entry at.licensee at.is_there ((decides at.licensee term).1 at.satisfies)

entry_by : (licensees : List LicenseReq) (entry : ℕ) (term : LicenseReq) (there : Option LicenseReq) → slice_get licensees entry ≡ there
    → option_map_or (λ licensee. satisfies licensee term) there false ≡ true → SatisfiesAt licensees entry term
entry_by licensees entry term None is e = absurd (true≢false (sym e))
entry_by licensees entry term (Some licensee) is e = record { licensee = licensee; is_there = is; satisfies = (decides licensee term).0 e }

entry_test : (licensees : List LicenseReq) (entry : ℕ) (term : LicenseReq) → SatisfiesAt licensees entry term → satisfies_at licensees entry term ≡ true
entry_test licensees entry term at =
    ap (λ (there : Option LicenseReq). option_map_or (λ licensee. satisfies licensee term) there false) at.is_there ∙ (decides at.licensee term).1 at.satisfies

-- ---- the hit of a term

some_or : (one other : Option Hit) → is_some other ≡ true → is_some (option_or one other) ≡ true
some_or (Some hit) other e = refl
some_or None other e = e

some_first : (one other : Option Hit) → is_some one ≡ true → is_some (option_or one other) ≡ true
some_first (Some hit) other e = refl
some_first None other e = absurd (true≢false (sym e))

some_map : (make : ℕ → Hit) (entry : Option ℕ) → is_some entry ≡ true → is_some (option_map make entry) ≡ true
some_map make (Some place) e = refl
some_map make None e = absurd (true≢false (sym e))

module _ (policy : Policy) (counted : List ℕ) (term : LicenseReq) where
  abbrev granted : List ℕ → Option Hit
  granted places = granted_hit policy.exceptions places term

  abbrev by_allowed : Option Hit
  by_allowed = option_map Allowed (first_entry policy.allowed term)

  -- where one of some exceptions has a hit, they have
  granted_some : (places : List ℕ) (exception : ℕ) → Has places exception → is_some (exception_hit policy.exceptions exception term) ≡ true → is_some (granted places) ≡ true
  granted_some [] exception at e = absurd at
  granted_some (place ∷ places) exception (inl same) e =
      some_first (exception_hit policy.exceptions place term) (granted places) (ap (λ (one : ℕ). is_some (exception_hit policy.exceptions one term)) (sym same) ∙ e)
  granted_some (place ∷ places) exception (inr at) e = some_or (exception_hit policy.exceptions place term) (granted places) (granted_some places exception at e)

  -- a term that an entry satisfies has a hit
  allows_some : (hit : Hit) → AllowsTerm policy counted term hit → is_some (hit_of policy counted term) ≡ true
  allows_some (Allowed entry) at =
      some_or (granted counted) by_allowed (some_map Allowed (first_entry policy.allowed term) (some_entry policy.allowed term entry at))
  allows_some (Exception exception entry) at =
      let licensees = granted_licensees policy.exceptions exception in
      some_first (granted counted) by_allowed
      (granted_some counted exception (contains_has counted exception at.0) (some_map (Exception exception) (first_entry licensees term) (some_entry licensees term entry at.1)))

  -- and the entry of its hit satisfies it
  allowed_by : (hit : Hit) (entry : Option ℕ) → first_entry policy.allowed term ≡ entry → option_map Allowed entry ≡ Some hit → AllowsTerm policy counted term hit
  allowed_by hit None is e = absurd (none_apart hit e)
  allowed_by hit (Some entry) is e = subst (AllowsTerm policy counted term) (some_is (Allowed entry) hit e) (entry_at policy.allowed term entry is)

  granted_first : (hit : Hit) (place : ℕ) → Has counted place → (rest : Option Hit) → (option_or rest by_allowed ≡ Some hit → AllowsTerm policy counted term hit)
      → (entry : Option ℕ) → first_entry (granted_licensees policy.exceptions place) term ≡ entry
      → option_or (option_or (option_map (Exception place) entry) rest) by_allowed ≡ Some hit → AllowsTerm policy counted term hit
  granted_first hit place counts rest more None is e = more e
  granted_first hit place counts rest more (Some entry) is e =
      subst (AllowsTerm policy counted term) (some_is (Exception place entry) hit e)
      (has_contains counted place counts, entry_at (granted_licensees policy.exceptions place) term entry is)

  granted_by : (places : List ℕ) → ((one : ℕ) → Has places one → Has counted one) → (hit : Hit) → option_or (granted places) by_allowed ≡ Some hit → AllowsTerm policy counted term hit
  granted_by [] inside hit e = allowed_by hit (first_entry policy.allowed term) refl e
  granted_by (place ∷ places) inside hit e =
      granted_first hit place (inside place (inl refl)) (granted places) (λ rest. granted_by places (λ one at. inside one (inr at)) hit rest)
      (first_entry (granted_licensees policy.exceptions place) term) refl e

  allows_by : (hit : Hit) → hit_of policy counted term ≡ Some hit → AllowsTerm policy counted term hit
  allows_by hit e = granted_by counted (λ one at. at) hit e

  -- the test of a recorded hit
  allowed_hit : (hit : Hit) → is_allowed_by policy counted term hit ≡ true → AllowsTerm policy counted term hit
  allowed_hit (Allowed entry) e = entry_by policy.allowed entry term (slice_get policy.allowed entry) refl e
  allowed_hit (Exception exception entry) e =
      let licensees = granted_licensees policy.exceptions exception in
      let parts = and_parts (is_among counted exception) (satisfies_at licensees entry term) e in (
        has_contains counted exception (among_has counted exception parts.0),
        entry_by licensees entry term (slice_get licensees entry) refl parts.1,
      )

  hit_allowed : (hit : Hit) → AllowsTerm policy counted term hit → is_allowed_by policy counted term hit ≡ true
  hit_allowed (Allowed entry) at = entry_test policy.allowed entry term at
  hit_allowed (Exception exception entry) at =
      let licensees = granted_licensees policy.exceptions exception in
      both_true (is_among counted exception) (satisfies_at licensees entry term)
      (has_among counted exception (contains_has counted exception at.0)) (entry_test licensees entry term at.1)

-- ---- the hits of terms, place by place

term_at : (terms : List ExpressionReq) (place : ℕ) → place < length terms → (term : ExpressionReq) × (slice_get terms place ≡ Some term)
term_at [] place inside = absurd (omega arith)
term_at (term ∷ terms) zero inside = (term, refl)
term_at (term ∷ terms) (suc place) inside = term_at terms place (omega arith)

hit_there : (f : ExpressionReq → Option Hit) (terms : List ExpressionReq) (place : ℕ) (term : ExpressionReq) → slice_get terms place ≡ Some term → hit_at (map f terms) place ≡ f term
hit_there f [] place term is = absurd (none_apart term is)
hit_there f (first ∷ terms) zero term is = ap f (some_is first term is)
hit_there f (first ∷ terms) (suc place) term is = hit_there f terms place term is

there_hit : (f : ExpressionReq → Option Hit) (terms : List ExpressionReq) (place : ℕ) (hit : Hit) → hit_at (map f terms) place ≡ Some hit
    → (term : ExpressionReq) × (slice_get terms place ≡ Some term) × (f term ≡ Some hit)
there_hit f [] place hit e = absurd (none_apart hit e)
there_hit f (term ∷ terms) zero hit e = (term, refl, e)
there_hit f (term ∷ terms) (suc place) hit e = there_hit f terms place hit e

module _ (policy : Policy) (counted : List ℕ) (terms : List ExpressionReq) where
  abbrev term_hit : ExpressionReq → Option Hit
  term_hit term = hit_of policy counted term.req

  -- ---- entries

  abbrev allows_at : Hit → Option ExpressionReq → Bool
  allows_at hit there = option_map_or (λ (term : ExpressionReq). is_allowed_by policy counted term.req hit) there false

  entry_here : (place : ℕ) (hit : Hit) (there : Option ExpressionReq) → slice_get terms place ≡ there → allows_at hit there ≡ true → HasEntry policy counted terms place hit
  entry_here place hit None is e = absurd (true≢false (sym e))
  entry_here place hit (Some term) is e = record { term = term; is_there = is; allowed = allowed_hit policy counted term.req hit e }

  -- the test of all of them
  pub entries_of : (places : List ℕ) (hits : List Hit) → are_allowed policy counted terms places hits ≡ true → AllZip (HasEntry policy counted terms) places hits
  entries_of [] [] e = tt
  entries_of [] (hit ∷ hits) e = absurd (true≢false (sym e))
  entries_of (place ∷ places) [] e = absurd (true≢false (sym e))
  entries_of (place ∷ places) (hit ∷ hits) e =
      let parts = and_parts (allows_at hit (slice_get terms place)) (are_allowed policy counted terms places hits) e in
      (entry_here place hit (slice_get terms place) refl parts.0, entries_of places hits parts.1)

  pub entries_allowed : (places : List ℕ) (hits : List Hit) → AllZip (HasEntry policy counted terms) places hits → are_allowed policy counted terms places hits ≡ true
  entries_allowed [] [] each = refl
  entries_allowed [] (hit ∷ hits) each = absurd each
  entries_allowed (place ∷ places) [] each = absurd each
  entries_allowed (place ∷ places) (hit ∷ hits) each =
      both_true (allows_at hit (slice_get terms place)) (are_allowed policy counted terms places hits)
      (ap (allows_at hit) each.0.is_there ∙ hit_allowed policy counted each.0.term.req hit each.0.allowed) (entries_allowed places hits each.1)

  -- each of their places has a hit
  pub all_hit : (places : List ℕ) (hits : List Hit) → AllZip (HasEntry policy counted terms) places hits → list_all (has_hit (term_hits policy counted terms)) places ≡ true
  all_hit [] [] each = refl
  all_hit [] (hit ∷ hits) each = absurd each
  all_hit (place ∷ places) [] each = absurd each
  all_hit (place ∷ places) (hit ∷ hits) each =
      both_true (has_hit (term_hits policy counted terms) place) (list_all (has_hit (term_hits policy counted terms)) places)
      (ap is_some (hit_there term_hit terms place each.0.term each.0.is_there) ∙ allows_some policy counted each.0.term.req hit each.0.allowed)
      (all_hit places hits each.1)

  -- those of the hits that are kept
  pub entries_kept : (places : List ℕ) (hits : List Hit) → map Some hits ≡ map (hit_at (term_hits policy counted terms)) places → AllZip (HasEntry policy counted terms) places hits
  entries_kept [] [] e = tt
  entries_kept [] (hit ∷ hits) e = absurd (nil_apart (Some hit) (map Some hits) e)
  entries_kept (place ∷ places) [] e = absurd (nil_apart (hit_at (term_hits policy counted terms) place) (map (hit_at (term_hits policy counted terms)) places) (sym e))
  entries_kept (place ∷ places) (hit ∷ hits) e =
      let kept = hit_at (term_hits policy counted terms) in
      let at = there_hit term_hit terms place hit (sym (same_head (Some hit) (kept place) (map Some hits) (map kept places) e)) in (
        record { term = at.0; is_there = at.1; allowed = allows_by policy counted at.0.req hit at.2 },
        entries_kept places hits (same_tail (Some hit) (kept place) (map Some hits) (map kept places) e),
      )

  -- ---- places without one

  abbrev hit_or_none : Option ExpressionReq → Bool
  hit_or_none there = option_map_or (λ (term : ExpressionReq). is_some (hit_of policy counted term.req)) there true

  no_entry_here : (place : ℕ) (there : Option ExpressionReq) → slice_get terms place ≡ there → hit_or_none there ≡ false → HasNoEntry policy counted terms place
  no_entry_here place None is e = absurd (true≢false e)
  no_entry_here place (Some term) is e = record { term = term; is_there = is; no_hit = none_is (hit_of policy counted term.req) e }

  -- the test of all of them
  pub no_entries_of : (places : List ℕ) → list_any (hit_or_none_by policy counted terms) places ≡ false → AllByRecursion (HasNoEntry policy counted terms) places
  no_entries_of [] e = tt
  no_entries_of (place ∷ places) e =
      let parts = or_parts (hit_or_none (slice_get terms place)) (list_any (hit_or_none_by policy counted terms) places) e in
      (no_entry_here place (slice_get terms place) refl parts.0, no_entries_of places parts.1)

  pub no_entries_found : (places : List ℕ) → AllByRecursion (HasNoEntry policy counted terms) places → list_any (hit_or_none_by policy counted terms) places ≡ false
  no_entries_found [] each = refl
  no_entries_found (place ∷ places) each =
      both_false (hit_or_none (slice_get terms place)) (list_any (hit_or_none_by policy counted terms) places)
      (ap hit_or_none each.0.is_there ∙ ap is_some each.0.no_hit) (no_entries_found places each.1)

  -- no hit is kept there
  pub no_hit_kept : (place : ℕ) → HasNoEntry policy counted terms place → has_hit (term_hits policy counted terms) place ≡ false
  no_hit_kept place none = ap is_some (hit_there term_hit terms place none.term none.is_there ∙ none.no_hit)

  pub none_kept : (places : List ℕ) → ((place : ℕ) → Has places place → place < length terms) → AllByRecursion (λ place. has_hit (term_hits policy counted terms) place ≡ false) places
      → AllByRecursion (HasNoEntry policy counted terms) places
  none_kept [] inside each = tt
  none_kept (place ∷ places) inside each =
      let at = term_at terms place (inside place (inl refl)) in (
        record { term = at.0; is_there = at.1; no_hit = none_is (term_hit at.0) (ap is_some (sym (hit_there term_hit terms place at.0 at.1)) ∙ each.0) },
        none_kept places (λ other held. inside other (inr held)) each.1,
      )
