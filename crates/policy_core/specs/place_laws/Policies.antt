-- The places that a policy keeps.
use Rattle.std.specs.Prelude.{ℕ, List}
use Rattle.deny_text.specs.Spans.{LiesBetween}
use Rattle.policy_core.specs.declared.config.config.Config.{Config}
use Rattle.policy_core.specs.declared.config.root.RootConfig.{RootConfig}
use Rattle.policy_core.specs.place_laws.Places.{keeps_each, keeps_where}
use Rattle.policy_core.specs.place_laws.Parts.{private_keeps, graph_keeps}
use Rattle.policy_core.specs.place_laws.Entries.{licensee_keeps, ExceptionKeeps, ClarificationKeeps}

pub record ConfigKeeps (text : List ℕ) (config : Config) : Type 0 where
  pub private : private_keeps text config.private
  pub allow : keeps_each licensee_keeps text config.allow
  pub clarify : keeps_each ClarificationKeeps text config.clarify
  pub exceptions : keeps_each ExceptionKeeps text config.exceptions
  pub deprecated : keeps_each LiesBetween text config.deprecated_spans

pub record RootKeeps (text : List ℕ) (root : RootConfig) : Type 0 where
  pub licenses : keeps_where ConfigKeeps text root.licenses
  pub graph : graph_keeps text root.graph
  pub graph_deprecated : keeps_each LiesBetween text root.graph_deprecated
  pub output_deprecated : keeps_where LiesBetween text root.output_deprecated
