-- More entries never reject.
use Rattle.std.specs.Prelude.{ℕ, IsTrue, List, [], ◌∷◌, ◌++◌, insert}
use Rattle.spdx_terms.specs.declared.term.ExpressionReq.{ExpressionReq}
use Rattle.spdx_terms.specs.declared.term.LicenseReq.{LicenseReq}
use Rattle.spdx_core.specs.Grammar.{ExpressionTree}
use Rattle.policy_core.specs.valid.Policy.{Grant, Policy}
use Rattle.check_core.specs.evaluate.Evaluation.{is_allowed}

-- a policy with one more allowed licensee at a place of its list; behind the list it is last
abbrev pub with_allowed : Policy → ℕ → LicenseReq → Policy
with_allowed policy place licensee = record {
  ignores = policy.ignores;
  registries = policy.registries;
  ignore_sources = policy.ignore_sources;
  allowed = insert policy.allowed place licensee;
  exceptions = policy.exceptions;
}

-- a policy with one more exception behind all others
abbrev pub with_exception : Policy → Grant → Policy
with_exception policy grant = record {
  ignores = policy.ignores;
  registries = policy.registries;
  ignore_sources = policy.ignore_sources;
  allowed = policy.allowed;
  exceptions = policy.exceptions ++ grant ∷ [];
}

abbrev pub MoreAllowedNeverReject : Type 0
MoreAllowedNeverReject =
    (policy : Policy) (counted : List ℕ) (terms : List ExpressionReq) (tree : ExpressionTree) (place : ℕ)
    (licensee : LicenseReq)
    → IsTrue (is_allowed policy counted terms tree)
    → IsTrue (is_allowed (with_allowed policy place licensee) counted terms tree)

-- the exceptions that counted count as before, and others may count behind them
abbrev pub MoreExceptionsNeverReject : Type 0
MoreExceptionsNeverReject =
    (policy : Policy) (counted more : List ℕ) (terms : List ExpressionReq) (tree : ExpressionTree) (grant : Grant)
    → IsTrue (is_allowed policy counted terms tree)
    → IsTrue (is_allowed (with_exception policy grant) (counted ++ more) terms tree)
