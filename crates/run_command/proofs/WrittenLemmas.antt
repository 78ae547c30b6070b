-- A command that writes a text to a sink of its own: which calls it made, how it ends over lawful input, and what it is never refused with.
use Rattle.std.proofs.Common.{inl, inr, ℕ, List, Result, Ok, Err}
use Rattle.tree_core.specs.Faults.{Rose}
use Rattle.tree_core.proofs.MadeLemmas.{some_made}
use Rattle.tree_core.specs.texts.Cause.{Cause, ReadCounts, no_memory, failed_read, refused_write}
use Rattle.tree_core.specs.texts.Cause as causes
use Rattle.tree_core.specs.declared.texts.fault.ReadFault.TheVariants.{Absent}
use Rattle.run_found.specs.declared.error.Error.{Error}
use Rattle.run_found.specs.declared.error.Error.TheVariants.{ConfigRead, WriteFault}
use Rattle.run_found.specs.Error.{EndsLawful, MayEndLawful, cause_of}
use Rattle.run_found.specs.Hearing.{HasMade, RequestHearing, TreeSeen}
use Rattle.run_found.specs.Written.{SinkSeen}
use Rattle.run_command.specs.Given.{CommandArguments}
use Rattle.run_command.specs.Settled.{CutsOut, WritesOut}
use Rattle.run_command.specs.Written.{IsWriteFault}
use Rattle.run_command.proofs.AbsentLemmas.{stops_never}
use Rattle.run_command.proofs.LawfulLemmas.{NoRefusal, stops_lawful}
use Rattle.run_command.proofs.StopLemmas.{stops_made}

module _ {X A : Type 0} (given : CommandArguments) (tree : TreeSeen) (err out : SinkSeen) (IsSo : X → RequestHearing → Type 0) (text : X → List ℕ) (answer : X → A) where
  -- calls were made, and nothing else came of it
  pub writes_made : (result : Result A Error) → WritesOut given tree err out IsSo text answer result → HasMade tree
  writes_made (Ok told) writes = some_made writes.hears.heard.made
  writes_made (Err error) (inl refused) = stops_made given tree err error refused.0
  writes_made (Err error) (inr cut) = some_made cut.hears.heard.made

  module _ (apart : NoRefusal given tree) (err_quiet : Rose err.before err.after → ⊥) (out_quiet : Rose out.before out.after → ⊥) where
    by_cut : (cause : Cause) → CutsOut given tree err out IsSo text cause → MayEndLawful cause
    by_cut no_memory cut = tt
    by_cut causes.told cut = cut.cut
    by_cut (failed_read first last) cut = cut.cut
    by_cut (refused_write first last) cut = absurd (out_quiet cut.cut.rose)

    -- lawful input without a fault is answered, but for want of memory
    pub writes_lawful : (result : Result A Error) → WritesOut given tree err out IsSo text answer result → EndsLawful result
    writes_lawful (Ok told) writes = tt
    writes_lawful (Err error) (inl refused) = stops_lawful given tree err apart err_quiet error refused.0
    writes_lawful (Err error) (inr cut) = by_cut (cause_of error) cut

  -- an absent policy is no refusal
  pub writes_never : WritesOut given tree err out IsSo text answer (Err (ConfigRead Absent)) → ⊥
  writes_never (inl refused) = stops_never given tree err refused.0
  writes_never (inr cut) = cut.cut

-- no refused write has the counts of a read
pub write_counts : (first last : ℕ) (error : Error) → IsWriteFault first last error → (begun before after : ℕ) → ReadCounts begun before after (cause_of error)
write_counts first last (WriteFault one other) fault begun before after = tt
write_counts first last _ fault begun before after = absurd fault
