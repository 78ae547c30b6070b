-- The places that the parts of a policy keep.
use Rattle.std.specs.Prelude.{ℕ, List}
use Rattle.policy_parts.specs.declared.file_source.FileSource.{FileSource}
use Rattle.policy_parts.specs.declared.graph.GraphConfig.{GraphConfig}
use Rattle.policy_parts.specs.declared.private.Private.{Private}
use Rattle.policy_parts.specs.declared.reason.Reason.{Reason}
use Rattle.policy_parts.specs.declared.target.Target.{Target}
use Rattle.policy_core.specs.place_laws.Places.{keeps_its_span, keeps_each}

abbrev pub private_keeps : List ℕ → Private → Type 0
private_keeps text private = keeps_each keeps_its_span text private.ignore_sources

abbrev pub target_keeps : List ℕ → Target → Type 0
target_keeps text target = keeps_its_span text target.filter

abbrev pub graph_keeps : List ℕ → GraphConfig → Type 0
graph_keeps text graph = keeps_each target_keeps text graph.targets

abbrev pub file_source_keeps : List ℕ → FileSource → Type 0
file_source_keeps text file = keeps_its_span text file.path

abbrev pub reason_keeps : List ℕ → Reason → Type 0
reason_keeps text reason = keeps_its_span text reason.0
