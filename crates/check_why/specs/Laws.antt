-- That a crate is accepted once what it is said to need is allowed.
use Rattle.std.specs.Prelude.{◌≡◌, ℕ, true, List, All, Any, Contains, slice_get, Some}
use Rattle.spdx_terms.specs.declared.term.ExpressionReq.{ExpressionReq}
use Rattle.spdx_terms.specs.declared.term.LicenseReq.{LicenseReq}
use Rattle.spdx_core.specs.Reading.{ExpressionView}
use Rattle.spdx_core.specs.certificates.Certificates.{ShowsRejected}
use Rattle.policy_core.specs.valid.Policy.{Policy}
use Rattle.policy_core.specs.valid.Satisfied.{satisfies}
use Rattle.check_core.specs.evaluate.Evaluation.{is_allowed, term_hits}
use Rattle.check_why.specs.Answer.{failing}

-- the term at a place is there, and some licensee that is allowed satisfies it
pub record AllowsTerm (allowed : List LicenseReq) (terms : List ExpressionReq) (place : ℕ) : Type 0 where
  pub term : ExpressionReq
  pub stands : slice_get terms place ≡ Some term
  pub satisfied : Any (λ licensee. satisfies licensee term.req ≡ true) allowed

-- a policy that allows all that another does, with the same exceptions, and the terms at some places
pub record AllowsAlso (policy more : Policy) (terms : List ExpressionReq) (places : List ℕ) : Type 0 where
  pub exceptions : more.exceptions ≡ policy.exceptions
  pub kept : All (Contains more.allowed) policy.allowed
  pub added : All (AllowsTerm more.allowed terms) places

-- The terms of a rejected crate's least choice that are not allowed are enough: whatever policy allows them too accepts
-- the crate.
abbrev pub AllowedIsEnough : Type 0
AllowedIsEnough =
    (policy more : Policy) (counted : List ℕ) (expression : ExpressionView) (least blocks : List ℕ)
    → ShowsRejected (term_hits policy counted expression.terms) expression.tree least blocks
    → AllowsAlso policy more expression.terms (failing (term_hits policy counted expression.terms) least)
    → is_allowed more counted expression.terms expression.tree ≡ true

-- a term is satisfied by the licensee that it is itself, so this may be the one that is allowed
abbrev pub TermSatisfiesItself : Type 0
TermSatisfiesItself = (term : LicenseReq) → satisfies term term ≡ true
