-- An index of a policy.
use Rattle.std.specs.Prelude.{◌≡◌, List, map}
use Rattle.policy_parts.specs.spec.Index.{spec_numbers}
use Rattle.policy_parts.specs.spec.Spec.{Spec}
use Rattle.policy_core.specs.declared.valid.policy.ValidClarification.{ValidClarification}
use Rattle.policy_core.specs.declared.valid.policy.ValidConfig.{ValidConfig}
use Rattle.policy_core.specs.declared.valid.policy.ValidException.{ValidException}
use Rattle.policy_core.specs.valid.View.{policy_of}
use Rattle.check_core.specs.evaluate.Entries.{entry_families}
use Rattle.check_why.specs.declared.policy_index.PolicyIndex.{PolicyIndex}

-- the crates that clarifications and exceptions are for
abbrev pub clarification_specs : List ValidClarification → List Spec
clarification_specs clarifications = map (λ (one : ValidClarification). one.spec) clarifications

abbrev pub exception_specs : List ValidException → List Spec
exception_specs exceptions = map (λ (one : ValidException). one.spec) exceptions

-- it has the places of the entries of each licence family, and the numbers that clarifications and exceptions are
-- found by
pub record IndexesPolicy (policy : ValidConfig) (index : PolicyIndex) : Type 0 where
  pub entries : entry_families (policy_of policy) ≡ index.entries
  pub clarifications : spec_numbers (clarification_specs policy.clarifications) ≡ index.clarifications
  pub exceptions : spec_numbers (exception_specs policy.exceptions) ≡ index.exceptions
