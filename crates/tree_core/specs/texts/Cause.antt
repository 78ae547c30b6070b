-- Why an error comes.
use Rattle.std.specs.Prelude.{◌≡◌, ℕ, List, Result, Err}
use Rattle.tree_core.specs.Faults.{Rose}
use Rattle.tree_core.specs.declared.texts.fault.ReadFault.{ReadFault}
use Rattle.tree_core.specs.declared.texts.fault.ReadFault.TheVariants.{Failed}

-- Why an error comes: for want of memory, because the words or the files are so, or after a read or a write that
-- failed, with the counts of faults of the tree or of the sink before and after it.
pub data Cause : Type 0 where
  no_memory : Cause
  told : Cause
  failed_read : ℕ → ℕ → Cause
  refused_write : ℕ → ℕ → Cause

-- A failed read has the counts of the tree when the run began and when the step ended, and in that step the count rose.
abbrev pub ReadCounts : ℕ → ℕ → ℕ → Cause → Type 0
ReadCounts begun before after (failed_read first last) = (first ≡ begun) × (last ≡ after) × Rose before after
ReadCounts begun before after _ = Unit {0}

abbrev pub heard_cause : Result (List ℕ) ReadFault → Cause
heard_cause (Err (Failed before after)) = failed_read before after
heard_cause _ = told
