-- More entries never reject a crate.
use Rattle.std.proofs.Common.{◌≡◌, ◌∙◌, refl, sym, ap, subst, ℕ, suc, Bool, true, false, inl, inr, cond, IsTrue, List, [], ◌∷◌, ◌++◌, map, Option, Some, None}
use Rattle.std.specs.Prelude.{◌↔◌}
use Rattle.std.specs.Option.{option_to_list}
use Rattle.std.proofs.lemmas.Bool.{both_ways}
use Rattle.std.proofs.lemmas.List.{map-append}
use Rattle.spdx_terms.specs.declared.term.ExpressionReq.{ExpressionReq}
use Rattle.spdx_terms.specs.declared.term.LicenseReq.{LicenseReq}
use Rattle.spdx_core.specs.Grammar.{ExpressionTree}
use Rattle.spdx_core.specs.Reading.{ExpressionView}
use Rattle.graph_core.specs.Krate.{CrateRecord}
use Rattle.policy_parts.specs.spec.Index.{first_of, places_from}
use Rattle.policy_parts.specs.spec.Matching.{spec_matches}
use Rattle.gather_core.specs.Exceptions as rules
use Rattle.gather_core.specs.Exceptions.{ExceptionEntry, ExceptionRules, counted_of, exception_entry, exception_rules, is_for}
use Rattle.gather_core.proofs.ExceptionLemmas.{further_exceptions_count_last, one_exception_counts}
use Rattle.policy_core.specs.declared.valid.policy.ValidConfig.{ValidConfig}
use Rattle.policy_core.specs.declared.valid.policy.ValidException.{ValidException}
use Rattle.policy_core.specs.valid.Policy.{Grant, IsPrivate, Policy}
use Rattle.policy_core.specs.valid.View.{grant_of, policy_of}
use Rattle.check_core.specs.evaluate.Evaluation.{is_allowed}
use Rattle.check_core.specs.evaluate.Laws.{with_allowed, with_exception}
use Rattle.check_core.proofs.evaluate.MoreLemmas.{more_allowed, more_exceptions}
use Rattle.check_core.specs.Laws.{FirstExceptionCounts, FurtherExceptionIsAsGood, IsAsGood, with_further}
use Rattle.check_core.specs.Verdicts.{Judgement, accepted, rejected, IsJudged, judgement_of, verdict_of}

-- tests of one fact agree
pub same_test : (one other : Bool) {A B : Type 0} → (A → B) → (B → A) → IsTrue one ↔ A → IsTrue other ↔ B → one ≡ other
same_test true true to from first second = refl
same_test true false to from first second = absurd (both_ways false refl (second.1 (to (first.0 refl))))
same_test false true to from first second = absurd (both_ways false refl (first.1 (from (second.0 refl))))
same_test false false to from first second = refl

as_good_if : (before after : Bool) → (before ≡ true → after ≡ true) → IsAsGood (cond before accepted rejected) (cond after accepted rejected)
as_good_if true true more = refl
as_good_if true false more = absurd (both_ways false refl (more refl))
as_good_if false true more = inr refl
as_good_if false false more = inl refl

-- a policy that allows no less by some exceptions than another by others, and passes over the same crates
module _ (policy other : Policy) (krate : CrateRecord) (counted further : List ℕ) (to : IsPrivate policy krate → IsPrivate other krate) (from : IsPrivate other krate → IsPrivate policy krate)
    (more : (terms : List ExpressionReq) (tree : ExpressionTree) → IsTrue (is_allowed policy counted terms tree) → IsTrue (is_allowed other further terms tree)) where
  judged_as_good : (expression : Option ExpressionView) → IsAsGood (judgement_of policy counted expression) (judgement_of other further expression)
  judged_as_good None = refl
  judged_as_good (Some expression) =
      as_good_if (is_allowed policy counted expression.terms expression.tree) (is_allowed other further expression.terms expression.tree)
      (more expression.terms expression.tree)

  verdict_as_good : (private : Bool) (expression : Option ExpressionView) → IsAsGood (verdict_of private policy counted expression) (verdict_of private other further expression)
  verdict_as_good true expression = refl
  verdict_as_good false expression = judged_as_good expression

  as_good : (expression : Option ExpressionView) (before after : Judgement) → IsJudged policy krate counted expression before → IsJudged other krate further expression after → IsAsGood before after
  as_good expression before after first second =
      let same : first.private ≡ second.private = same_test first.private second.private to from first.tells second.tells in
      let after_is : after ≡ verdict_of first.private other further expression = second.is ∙ ap (λ (b : Bool). verdict_of b other further expression) (sym same) in
      subst (λ (j : Judgement). IsAsGood j after) (sym first.is)
      (subst (λ (j : Judgement). IsAsGood (verdict_of first.private policy counted expression) j) (sym after_is) (verdict_as_good first.private expression))

pub more_allowed_as_good : (policy : Policy) (krate : CrateRecord) (counted : List ℕ) (expression : Option ExpressionView) (place : ℕ) (licensee : LicenseReq) (before after : Judgement)
    → IsJudged policy krate counted expression before → IsJudged (with_allowed policy place licensee) krate counted expression after → IsAsGood before after
more_allowed_as_good policy krate counted expression place licensee =
    as_good policy (with_allowed policy place licensee) krate counted counted (λ is. record { ignores = is.ignores; private = is.private })
    (λ is. record { ignores = is.ignores; private = is.private }) (λ terms tree. more_allowed policy counted terms tree place licensee) expression

pub more_exceptions_as_good : (policy : Policy) (krate : CrateRecord) (counted more : List ℕ) (expression : Option ExpressionView) (grant : Grant) (before after : Judgement)
    → IsJudged policy krate counted expression before → IsJudged (with_exception policy grant) krate (counted ++ more) expression after → IsAsGood before after
more_exceptions_as_good policy krate counted more expression grant =
    as_good policy (with_exception policy grant) krate counted (counted ++ more) (λ is. record { ignores = is.ignores; private = is.private })
    (λ is. record { ignores = is.ignores; private = is.private }) (λ terms tree. more_exceptions policy counted more terms tree grant) expression

-- ---- of a whole policy

-- the exceptions for a crate, by their specs
places_by_spec : (krate : CrateRecord) (n : ℕ) (exceptions : List ValidException)
    → places_from n (is_for krate) (map exception_entry exceptions) ≡ places_from n (λ spec. spec_matches spec krate) (map (λ (grant : Grant). grant.spec) (map grant_of exceptions))
places_by_spec krate n [] = refl
places_by_spec krate n (exception ∷ more) = ap (λ (rest : List ℕ). cond (spec_matches exception.spec krate) (n ∷ rest) rest) (places_by_spec krate (suc n) more)

pub first_counts : FirstExceptionCounts
first_counts policy krate known_reads other =
    (one_exception_counts (exception_rules policy) krate known_reads other).0 ∙ ap (λ (places : List ℕ). option_to_list (first_of places)) (places_by_spec krate 0 policy.exceptions)

further_policy : (policy : ValidConfig) (exception : ValidException) → policy_of (with_further policy exception) ≡ with_exception (policy_of policy) (grant_of exception)
further_policy policy exception =
    ap (λ (grants : List Grant). let it : Policy = record (policy_of policy) { exceptions = grants } in it) (map-append grant_of policy.exceptions (exception ∷ []))

further_rules : (policy : ValidConfig) (exception : ValidException) → exception_rules (with_further policy exception) ≡ rules.with_exception (exception_rules policy) (exception_entry exception)
further_rules policy exception =
    ap (λ (entries : List ExceptionEntry). let it : ExceptionRules = record { each_counts = (exception_rules policy).each_counts; entries = entries } in it)
    (map-append exception_entry policy.exceptions (exception ∷ []))

pub further_as_good : FurtherExceptionIsAsGood
further_as_good policy exception krate known_reads expression before after first second =
    let counted = counted_of (exception_rules policy) krate known_reads in
    let last = further_exceptions_count_last (exception_rules policy) (exception_entry exception) krate known_reads in
    let count : counted_of (exception_rules (with_further policy exception)) krate known_reads ≡ counted ++ last.0 =
    ap (λ (all : ExceptionRules). counted_of all krate known_reads) (further_rules policy exception) ∙ last.1 in
    more_exceptions_as_good (policy_of policy) krate counted last.0 expression (grant_of exception) before after first
    (subst (λ (places : List ℕ). IsJudged (with_exception (policy_of policy) (grant_of exception)) krate places expression after) count
    (subst (λ (more : Policy). IsJudged more krate (counted_of (exception_rules (with_further policy exception)) krate known_reads) expression after)
    (further_policy policy exception) second))
