-- The counts of refusals.
use Rattle.std.proofs.Common.{◌≡◌, refl, ℕ, ◌≤◌, inl, inr, arith}
use Rattle.tree_core.specs.Faults.{Rose}
use Rattle.tree_core.specs.texts.Cause.{Cause, no_memory, told, failed_read, refused_write, ReadCounts}
use Rattle.tree_core.specs.declared.texts.fault.ReadFault.TheVariants.{Failed, Absent, Folder, NotUtf8}
use Rattle.policy_load.specs.Answer.{load_cause}
use Rattle.policy_load.specs.declared.error.LoadError.{LoadError}
use Rattle.policy_load.specs.declared.error.LoadError.TheVariants as load
use Rattle.run_found.specs.Error.{cause_of, error_of_load}

-- want of memory and a refused write
abbrev pub IsFree : Cause → Type 0
IsFree no_memory = Unit {0}
IsFree (refused_write before after) = Unit {0}
IsFree _ = ⊥

rose_from : (first before after : ℕ) → first ≤ before → Rose before after → Rose first after
rose_from first before after early (inl less) = inl (omega arith)
rose_from first before after early (inr last) = inr last

-- the count rose since an earlier moment, where it rose in a step
pub counts_from : (begun first before after : ℕ) (cause : Cause) → first ≤ before → ReadCounts begun before after cause → ReadCounts begun first after cause
counts_from begun first before after no_memory early counts = tt
counts_from begun first before after told early counts = tt
counts_from begun first before after (failed_read one other) early counts = (counts.0, counts.1, rose_from first before after early counts.2)
counts_from begun first before after (refused_write one other) early counts = tt

-- the cause of a load's refusal is that of its error
pub same_cause : (error : LoadError) → load_cause error ≡ cause_of (error_of_load error)
same_cause load.Memory = refl
same_cause (load.ConfigRead (Failed first last)) = refl
same_cause (load.ConfigRead Absent) = refl
same_cause (load.ConfigRead Folder) = refl
same_cause (load.ConfigRead (NotUtf8 place)) = refl
same_cause (load.ConfigSyntax fault) = refl
same_cause (load.ConfigShape faults) = refl
same_cause load.NotCarried = refl
same_cause (load.ConfigInvalid found) = refl
same_cause (load.WriteFault first last) = refl
