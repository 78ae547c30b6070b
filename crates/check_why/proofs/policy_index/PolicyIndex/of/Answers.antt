-- Each part of the index is made of its part of the policy.
use Rattle.std.proofs.Common.{◌≡◌, ◌∙◌, sym, ap, List}
use Rattle.policy_parts.specs.spec.Index.{spec_numbers}
use Rattle.policy_core.specs.declared.valid.policy.ValidClarification.{ValidClarification}
use Rattle.policy_core.specs.declared.valid.policy.ValidConfig.{ValidConfig}
use Rattle.policy_core.specs.declared.valid.policy.ValidException.{ValidException}
use Rattle.policy_core.specs.valid.View.{policy_of}
use Rattle.check_core.specs.evaluate.Entries.{entry_families}
use Rattle.check_why.specs.Indexes.{clarification_specs, exception_specs}
use Rattle.check_why.proofs.policy_index.PolicyIndex.of.Goals as goal

pub returns : goal.returns
returns c = record {
  entries = sym (c.in_ok-entries.ensures ∙ ap (λ (config : ValidConfig). entry_families (policy_of config)) c.of-counted.ensures);
  clarifications = sym (c.in_ok-clarifications.ensures ∙ ap (λ (all : List ValidClarification). spec_numbers (clarification_specs all)) c.items.ensures);
  exceptions = sym (c.in_ok-exceptions.ensures ∙ ap (λ (all : List ValidException). spec_numbers (exception_specs all)) c.items-2.ensures);
}
