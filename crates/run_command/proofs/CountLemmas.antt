-- The counts of refusals, and the places of a policy at another threshold.
use Rattle.std.proofs.Common.{ℕ, ℤ, List, Option, Some, None}
use Rattle.diag_core.specs.File.{File}
use Rattle.graph_workspace.specs.Krates.{krates_cause}
use Rattle.graph_workspace.specs.declared.error.KratesError.{KratesError}
use Rattle.graph_workspace.specs.declared.error.KratesError.TheVariants as krates
use Rattle.policy_core.specs.Places.{PolicyStands}
use Rattle.policy_core.specs.declared.valid.policy.ValidConfig.{ValidConfig}
use Rattle.tree_core.specs.texts.Cause.{ReadCounts}
use Rattle.tree_core.specs.declared.texts.fault.ReadFault.TheVariants.{Failed, Absent, Folder, NotUtf8}
use Rattle.run_overrides.specs.declared.error.OverrideError.{OverrideError}
use Rattle.run_overrides.specs.declared.error.OverrideError.TheVariants as overrides
use Rattle.run_found.specs.Error.{cause_of, error_of_krates, error_of_override}
use Rattle.run_command.specs.Found.{at_threshold}

-- a code or a level that is there twice is not read
pub override_counts : (begun before after : ℕ) (refused : OverrideError) → ReadCounts begun before after (cause_of (error_of_override refused))
override_counts begun before after overrides.Memory = tt
override_counts begun before after (overrides.OverrideTwice name first second) = tt

-- the cause of a refusal of crates is that of the command's
pub krates_counts : (begun before after : ℕ) (error : KratesError) → ReadCounts begun before after (krates_cause error) → ReadCounts begun before after (cause_of (error_of_krates error))
krates_counts begun before after krates.Memory counts = counts
krates_counts begun before after (krates.NotCarried what) counts = counts
krates_counts begun before after (krates.MetadataRead (Failed first last)) counts = counts
krates_counts begun before after (krates.MetadataRead Absent) counts = counts
krates_counts begun before after (krates.MetadataRead Folder) counts = counts
krates_counts begun before after (krates.MetadataRead (NotUtf8 place)) counts = counts
krates_counts begun before after krates.MetadataSyntax counts = counts
krates_counts begun before after (krates.MetadataShape fault) counts = counts
krates_counts begun before after (krates.NoRoots base excluded unpublished) counts = counts

-- a policy is where it stood, whatever the least score of a text
pub stands_at : (files : List File) (threshold : Option ℤ) (policy : ValidConfig) → PolicyStands files policy → PolicyStands files (at_threshold threshold policy)
stands_at files None policy stands = stands
stands_at files (Some threshold) policy stands = record {
  ignore_sources = stands.ignore_sources;
  allowed = stands.allowed;
  clarifications = stands.clarifications;
  exceptions = stands.exceptions;
}
