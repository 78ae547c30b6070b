-- What gathering takes of a policy.
use Rattle.std.specs.Prelude.{List}
use Rattle.policy_core.specs.declared.valid.policy.ValidConfig.{ValidConfig}
use Rattle.gather_core.specs.Entries.{ClarificationEntry, entries_of}
use Rattle.gather_core.specs.Exceptions.{ExceptionRules, exception_rules}

-- its clarifications, which settle licences, and its exceptions, of which some count
pub record GatherRules : Type 0 where
  pub clarifications : List ClarificationEntry
  pub exceptions : ExceptionRules

abbrev pub rules_of : ValidConfig → GatherRules
rules_of policy = record { clarifications = entries_of policy; exceptions = exception_rules policy }
