-- More entries never reject.
use Rattle.std.proofs.Common.{◌≡◌, ◌∙◌, refl, sym, ap, ℕ, zero, suc, Bool, true, false, ◌||◌, IsTrue, List, [], ◌∷◌, ◌++◌, map, take, drop, Option, Some, None, is_some}
use Rattle.std.specs.Prelude.{insert, option_map}
use Rattle.std.specs.Option.{option_or}
use Rattle.std.specs.List.{list_any}
use Rattle.std.proofs.lemmas.List.{take-append-drop}
use Rattle.std.proofs.lemmas.List.Folds.{list_any-append}
use Rattle.spdx_terms.specs.declared.term.ExpressionReq.{ExpressionReq}
use Rattle.spdx_terms.specs.declared.term.LicenseReq.{LicenseReq}
use Rattle.spdx_core.specs.Grammar.{ExpressionTree}
use Rattle.spdx_core.specs.declared.certificates.verdict.Hit.{Hit}
use Rattle.spdx_core.specs.declared.certificates.verdict.Hit.TheVariants.{Allowed, Exception}
use Rattle.spdx_core.specs.certificates.Certificates.{has_hit}
use Rattle.spdx_core.proofs.certificates.LawLemmas.{more_hits}
use Rattle.policy_core.specs.valid.Satisfied.{satisfies}
use Rattle.policy_core.specs.valid.Policy.{Grant, Policy, first_entry, granted_licensees, exception_hit, granted_hit, hit_of}
use Rattle.check_core.specs.evaluate.Evaluation.{term_hits, is_allowed}
use Rattle.check_core.specs.evaluate.Laws.{with_allowed, with_exception}
use Rattle.check_core.proofs.evaluate.PlaceLemmas.{found}

-- ---- hits that are gained

each : (f g : ExpressionReq → Option Hit) → ((term : ExpressionReq) → IsTrue (is_some (f term)) → IsTrue (is_some (g term)))
    → (terms : List ExpressionReq) (place : ℕ) → IsTrue (has_hit (map f terms) place) → IsTrue (has_hit (map g terms) place)
each f g more [] zero h = h
each f g more [] (suc n) h = h
each f g more (term ∷ terms) zero h = more term h
each f g more (term ∷ terms) (suc n) h = each f g more terms n h

still_allowed : (policy other : Policy) (counted further : List ℕ) (terms : List ExpressionReq) (tree : ExpressionTree)
    → ((term : LicenseReq) → IsTrue (is_some (hit_of policy counted term)) → IsTrue (is_some (hit_of other further term)))
    → IsTrue (is_allowed policy counted terms tree) → IsTrue (is_allowed other further terms tree)
still_allowed policy other counted further terms tree more =
    more_hits (has_hit (term_hits policy counted terms)) (has_hit (term_hits other further terms)) tree
    (each (λ term. hit_of policy counted term.req) (λ term. hit_of other further term.req) (λ term. more term.req) terms)

either_some : (one other : Option Hit) → is_some (option_or one other) ≡ (is_some one || is_some other)
either_some (Some x) other = refl
either_some None other = refl

map_some : (make : ℕ → Hit) (place : Option ℕ) → is_some (option_map make place) ≡ is_some place
map_some make (Some x) = refl
map_some make None = refl

right_of : (a b : Bool) → b ≡ true → (a || b) ≡ true
right_of true b h = refl
right_of false b h = h

either_more : (a b c d : Bool) → (a ≡ true → c ≡ true) → (b ≡ true → d ≡ true) → (a || b) ≡ true → (c || d) ≡ true
either_more true b c d first second h = ap (λ (passes : Bool). passes || d) (first refl)
either_more false b c d first second h = right_of c d (second h)

-- where each of two has a hit if it had one, so has their first
or_more : (one other after behind : Option Hit) → (is_some one ≡ true → is_some after ≡ true) → (is_some other ≡ true → is_some behind ≡ true)
    → is_some (option_or one other) ≡ true → is_some (option_or after behind) ≡ true
or_more one other after behind first second h =
    either_some after behind ∙ either_more (is_some one) (is_some other) (is_some after) (is_some behind) first second (sym (either_some one other) ∙ h)

-- ---- a further allowed licensee

one_more : (a b c : Bool) → (a || c) ≡ true → (a || (b || c)) ≡ true
one_more true b c h = refl
one_more false b c h = right_of b c h

any_more : (test : LicenseReq → Bool) (xs : List LicenseReq) (place : ℕ) (x : LicenseReq) → list_any test xs ≡ true → list_any test (insert xs place x) ≡ true
any_more test xs place x h =
    list_any-append test (take place xs) (x ∷ drop place xs)
    ∙ one_more (list_any test (take place xs)) (test x) (list_any test (drop place xs))
    (sym (list_any-append test (take place xs) (drop place xs)) ∙ ap (list_any test) (take-append-drop place xs) ∙ h)

entry_more : (term : LicenseReq) (xs : List LicenseReq) (place : ℕ) (x : LicenseReq)
    → is_some (option_map Allowed (first_entry xs term)) ≡ true → is_some (option_map Allowed (first_entry (insert xs place x) term)) ≡ true
entry_more term xs place x h =
    let test : LicenseReq → Bool = λ licensee. satisfies licensee term in
    map_some Allowed (first_entry (insert xs place x) term) ∙ found test 0 (insert xs place x)
    ∙ any_more test xs place x (sym (found test 0 xs) ∙ sym (map_some Allowed (first_entry xs term)) ∙ h)

pub more_allowed : (policy : Policy) (counted : List ℕ) (terms : List ExpressionReq) (tree : ExpressionTree) (place : ℕ) (licensee : LicenseReq)
    → IsTrue (is_allowed policy counted terms tree) → IsTrue (is_allowed (with_allowed policy place licensee) counted terms tree)
more_allowed policy counted terms tree place licensee =
    still_allowed policy (with_allowed policy place licensee) counted counted terms tree (λ term.
    let granted = granted_hit policy.exceptions counted term in
    or_more granted (option_map Allowed (first_entry policy.allowed term)) granted (option_map Allowed (first_entry (insert policy.allowed place licensee) term))
    (λ h. h) (entry_more term policy.allowed place licensee))

-- ---- a further exception

granted_more : (exceptions : List Grant) (grant : Grant) (term : LicenseReq) (place : ℕ) → is_some (first_entry (granted_licensees exceptions place) term) ≡ true
    → is_some (first_entry (granted_licensees (exceptions ++ grant ∷ []) place) term) ≡ true
granted_more [] grant term zero h = absurd (cc h)
granted_more [] grant term (suc n) h = absurd (cc h)
granted_more (first ∷ exceptions) grant term zero h = h
granted_more (first ∷ exceptions) grant term (suc n) h = granted_more exceptions grant term n h

module _ (exceptions : List Grant) (grant : Grant) (term : LicenseReq) where
  exception_more : (place : ℕ) → is_some (exception_hit exceptions place term) ≡ true → is_some (exception_hit (exceptions ++ grant ∷ []) place term) ≡ true
  exception_more place h =
      map_some (Exception place) (first_entry (granted_licensees (exceptions ++ grant ∷ []) place) term)
      ∙ granted_more exceptions grant term place (sym (map_some (Exception place) (first_entry (granted_licensees exceptions place) term)) ∙ h)

  -- what the exceptions had that counted, they still have
  counted_more : (counted more : List ℕ) → is_some (granted_hit exceptions counted term) ≡ true → is_some (granted_hit (exceptions ++ grant ∷ []) (counted ++ more) term) ≡ true
  counted_more [] more h = absurd (cc h)
  counted_more (place ∷ counted) more h =
      or_more (exception_hit exceptions place term) (granted_hit exceptions counted term)
      (exception_hit (exceptions ++ grant ∷ []) place term) (granted_hit (exceptions ++ grant ∷ []) (counted ++ more) term)
      (exception_more place) (counted_more counted more) h

pub more_exceptions : (policy : Policy) (counted more : List ℕ) (terms : List ExpressionReq) (tree : ExpressionTree) (grant : Grant)
    → IsTrue (is_allowed policy counted terms tree) → IsTrue (is_allowed (with_exception policy grant) (counted ++ more) terms tree)
more_exceptions policy counted more terms tree grant =
    still_allowed policy (with_exception policy grant) counted (counted ++ more) terms tree (λ term.
    let allowed = option_map Allowed (first_entry policy.allowed term) in
    or_more (granted_hit policy.exceptions counted term) allowed (granted_hit (policy.exceptions ++ grant ∷ []) (counted ++ more) term) allowed
    (counted_more policy.exceptions grant term counted more) (λ h. h))
