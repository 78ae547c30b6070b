-- A crate is accepted once the terms of its least choice that are not allowed are; and a term satisfies itself.
use Rattle.std.proofs.Common.{◌≡◌, ℕ, zero, suc, ◌<◌, ◌==◌, nat_lt, ◌&&◌, ◌||◌, not, Bool, true, false, cond, List, [], ◌∷◌, ◌++◌, map, filter, length, slice_get, All, Any, Contains, Option, Some, None, is_some, option_map, bytes_eq, refl, sym, ◌∙◌, ap, subst, arith}
use Rattle.std.specs.List.{AllByRecursion, list_all, list_any}
use Rattle.std.specs.Option.{option_and_then, option_or}
use Rattle.std.proofs.lemmas.List.Elements.{All-contains, Contains-append_right, recursion_from_All}
use Rattle.std.proofs.lemmas.List.Folds.{list_any-from_Any}
use Rattle.std.proofs.lemmas.Option.{slice_get-map}
use Rattle.std.proofs.lemmas.Slice.Eq.{bytes_eq-Decides}
use Rattle.spdx_terms.specs.declared.term.ExpressionReq.{ExpressionReq}
use Rattle.spdx_terms.specs.declared.term.LicenseItem.{LicenseItem}
use Rattle.spdx_terms.specs.declared.term.LicenseItem.TheVariants.{Spdx, Reference}
use Rattle.spdx_terms.specs.declared.term.LicenseReq.{LicenseReq}
use Rattle.spdx_core.specs.Grammar.{ExpressionTree}
use Rattle.spdx_core.specs.Reading.{ExpressionView}
use Rattle.spdx_core.specs.declared.certificates.verdict.Hit.{Hit}
use Rattle.spdx_core.specs.declared.certificates.verdict.Hit.TheVariants.{Allowed}
use Rattle.spdx_core.specs.certificates.Certificates.{ShowsRejected, has_hit, hit_at}
use Rattle.spdx_core.specs.certificates.Choices.{choices_of}
use Rattle.policy_core.specs.valid.Policy.{Policy, first_entry, granted_hit, hit_of}
use Rattle.policy_core.specs.valid.Satisfied.{item_satisfies, same_text, satisfies, version_satisfies}
use Rattle.check_core.specs.evaluate.Evaluation.{is_allowed, term_hits}
use Rattle.check_core.proofs.evaluate.PlaceLemmas.{found}
use Rattle.check_why.specs.Answer.{failing}
use Rattle.check_why.specs.Laws.{AllowedIsEnough, AllowsAlso, AllowsTerm, TermSatisfiesItself}

true-false : true ≡ false → ⊥
true-false e = cc

both : (a b : Bool) → a ≡ true → b ≡ true → (a && b) ≡ true
both true b e h = h
both false b e h = absurd (true-false (sym e))

-- ---- lists

any-one : {A : Type 0} (test : A → Bool) (xs : List A) (x : A) → Contains xs x → test x ≡ true → list_any test xs ≡ true
any-one test xs x (k, below, is) passes = list_any-from_Any test xs (k, x, below, is, passes)

any-kept : {A : Type 0} (test : A → Bool) (ys xs : List A) → AllByRecursion (Contains ys) xs → list_any test xs ≡ true
    → list_any test ys ≡ true
any-kept test ys [] all h = absurd (true-false (sym h))
any-kept test ys (x ∷ xs) all h =
    elim (test x) as (λ b. test x ≡ b → (b || list_any test xs) ≡ true → list_any test ys ≡ true) [
      | true ↦ λ e _. any-one test ys x all.0 e
      | false ↦ λ e rest. any-kept test ys xs all.1 rest
    ] refl h

all-pass : {A : Type 0} (test : A → Bool) (xs : List A) → AllByRecursion (λ x. test x ≡ true) xs → list_all test xs ≡ true
all-pass test [] all = refl
all-pass test (x ∷ xs) all = both (test x) (list_all test xs) all.0 (all-pass test xs all.1)

-- ---- hits

or-first : (one other : Option Hit) → is_some one ≡ true → is_some (option_or one other) ≡ true
or-first (Some hit) other h = refl
or-first None other h = absurd (true-false (sym h))

or-second : (one other : Option Hit) → is_some other ≡ true → is_some (option_or one other) ≡ true
or-second (Some hit) other h = refl
or-second None other h = h

or-cases : (one other after : Option Hit) → is_some (option_or one other) ≡ true → (is_some other ≡ true → is_some after ≡ true)
    → is_some (option_or one after) ≡ true
or-cases (Some hit) other after h more = refl
or-cases None other after h more = more h

map-some : (make : ℕ → Hit) (place : Option ℕ) → is_some (option_map make place) ≡ is_some place
map-some make (Some place) = refl
map-some make None = refl

-- a term is allowed where a licensee of the list satisfies it
entry-some : (allowed : List LicenseReq) (term : LicenseReq)
    → is_some (option_map Allowed (first_entry allowed term)) ≡ list_any (λ licensee. satisfies licensee term) allowed
entry-some allowed term = map-some Allowed (first_entry allowed term) ∙ found (λ (licensee : LicenseReq). satisfies licensee term) 0 allowed

module _ (policy more : Policy) (counted : List ℕ) (exceptions : more.exceptions ≡ policy.exceptions)
    (kept : All (Contains more.allowed) policy.allowed) where
  granted-same : (term : LicenseReq) → granted_hit more.exceptions counted term ≡ granted_hit policy.exceptions counted term
  granted-same term = ap (λ grants. granted_hit grants counted term) exceptions

  allowed-more : (term : LicenseReq) → is_some (option_map Allowed (first_entry policy.allowed term)) ≡ true
      → is_some (option_map Allowed (first_entry more.allowed term)) ≡ true
  allowed-more term h =
      entry-some more.allowed term
      ∙ any-kept (λ licensee. satisfies licensee term) more.allowed policy.allowed
      (recursion_from_All (Contains more.allowed) policy.allowed kept) (sym (entry-some policy.allowed term) ∙ h)

  -- what has a hit still has one
  hit-more : (term : LicenseReq) → is_some (hit_of policy counted term) ≡ true → is_some (hit_of more counted term) ≡ true
  hit-more term h =
      ap (λ granted. is_some (option_or granted (option_map Allowed (first_entry more.allowed term)))) (granted-same term)
      ∙ or-cases (granted_hit policy.exceptions counted term) (option_map Allowed (first_entry policy.allowed term))
      (option_map Allowed (first_entry more.allowed term)) h (allowed-more term)

  hit-added : (term : LicenseReq) → Any (λ licensee. satisfies licensee term ≡ true) more.allowed → is_some (hit_of more counted term) ≡ true
  hit-added term any =
      or-second (granted_hit more.exceptions counted term) (option_map Allowed (first_entry more.allowed term))
      (entry-some more.allowed term ∙ list_any-from_Any (λ licensee. satisfies licensee term) more.allowed any)

  module _ (terms : List ExpressionReq) where
    abbrev before : List (Option Hit)
    before = term_hits policy counted terms

    abbrev after : List (Option Hit)
    after = term_hits more counted terms

    -- place by place
    gained : (terms : List ExpressionReq) (place : ℕ) → has_hit (term_hits policy counted terms) place ≡ true
        → has_hit (term_hits more counted terms) place ≡ true
    gained [] zero h = h
    gained [] (suc place) h = h
    gained (term ∷ terms) zero h = hit-more term.req h
    gained (term ∷ terms) (suc place) h = gained terms place h

    added : (place : ℕ) → AllowsTerm more.allowed terms place → has_hit after place ≡ true
    added place one =
        ap (λ (o : Option (Option Hit)). is_some (option_and_then (λ hit. hit) o))
        (slice_get-map (λ (term : ExpressionReq). hit_of more counted term.req) terms place
        ∙ ap (option_map (λ (term : ExpressionReq). hit_of more counted term.req)) one.stands)
        ∙ hit-added one.term.req one.satisfied

    each-place : (places : List ℕ) → AllByRecursion (AllowsTerm more.allowed terms) (failing before places)
        → AllByRecursion (λ place. has_hit after place ≡ true) places
    each-place [] all = tt
    each-place (place ∷ places) all =
        elim (has_hit before place) as (λ b. has_hit before place ≡ b
        → AllByRecursion (AllowsTerm more.allowed terms) (cond (not b) (place ∷ failing before places) (failing before places))
        → AllByRecursion (λ q. has_hit after q ≡ true) (place ∷ places)) [
          | true ↦ λ e rest. (gained terms place e, each-place places rest)
          | false ↦ λ e rest. (added place rest.0, each-place places rest.1)
        ] refl all

pub allowed-is-enough : AllowedIsEnough
allowed-is-enough policy more counted expression least blocks shows also =
    let hits : List (Option Hit) = term_hits more counted expression.terms in
    let all : list_all (has_hit hits) least ≡ true =
    all-pass (has_hit hits) least
    (each-place policy more counted also.exceptions also.kept expression.terms least
    (recursion_from_All (AllowsTerm more.allowed expression.terms) (failing (term_hits policy counted expression.terms) least) also.added)) in
    let among : Contains (choices_of expression.tree) least =
    subst (λ choices. Contains choices least) (sym shows.first_least.parts)
    (Contains-append_right shows.first_least.before (least ∷ shows.first_least.behind) least (0, omega arith, refl)) in
    any-one (list_all (has_hit hits)) (choices_of expression.tree) least among all

-- ---- a term itself

nat-same : (n : ℕ) → (n == n) ≡ true
nat-same n = grind arith

or-true : (a : Bool) → (not a || a) ≡ true
or-true true = refl
or-true false = refl

first-true : (a b : Bool) → a ≡ true → (a || b) ≡ true
first-true true b e = refl
first-true false b e = absurd (true-false (sym e))

bytes-same : (text : List ℕ) → bytes_eq text text ≡ true
bytes-same text = (bytes_eq-Decides text text).1 refl

text-same : (text : Option (List ℕ)) → same_text text text ≡ true
text-same None = refl
text-same (Some text) = bytes-same text

version-same : (rank : ℕ) (later : Bool) → version_satisfies rank later rank later ≡ true
version-same rank later =
    first-true ((rank == rank) && (not later || later)) (later && nat_lt rank rank)
    (both (rank == rank) (not later || later) (nat-same rank) (or-true later))

item-same : (item : LicenseItem) → item_satisfies item item ≡ true
item-same (Spdx name family rank later plus) =
    both (family == family) (version_satisfies rank later rank later) (nat-same family) (version-same rank later)
item-same (Reference doc id) = both (same_text doc doc) (bytes_eq id id) (text-same doc) (bytes-same id)

pub term-satisfies-itself : TermSatisfiesItself
term-satisfies-itself term =
    both (same_text term.exception term.exception) (item_satisfies term.item term.item) (text-same term.exception) (item-same term.item)
