-- What the command `list` promises.
use Rattle.std.specs.Prelude.{◌≡◌, ◌≤◌, List, None, Some, Result, Err, IfErr, IfOk}
use Rattle.std.specs.List.{flat_map}
use Rattle.std.specs.Option.{ForSome}
use Rattle.tree_core.specs.Call.{Call}
use Rattle.tree_core.specs.declared.reads.ReadRecord.{ReadRecord}
use Rattle.tree_core.specs.file_reads.Rising.{RiseInOrder}
use Rattle.tree_core.specs.texts.Cause.{ReadCounts}
use Rattle.graph_workspace.specs.declared.error.UnsupportedPart.{UnsupportedPart}
use Rattle.run_found.specs.declared.error.Error.{Error}
use Rattle.run_found.specs.declared.error.Error.TheVariants.{NotCarried}
use Rattle.run_found.specs.declared.reads.CrateRead.{CrateRead}
use Rattle.run_found.specs.Error.{EndsLawful, cause_of}
use Rattle.run_found.specs.Hearing.{RequestHearing, TreeSeen}
use Rattle.run_found.specs.Written.{IsSilent, SinkSeen}
use Rattle.run_command.specs.Complete.{AreQuiet, IsLawfulIn, IsLawfulRead}
use Rattle.run_command.specs.Prelude.{IsUntouched}
use Rattle.run_command.specs.Stops.{PolicyAndCrates}
use Rattle.run_list.specs.Given.{ListArguments}
use Rattle.run_list.specs.Listing.{Lists}

-- the reads that are answered, crate after crate
abbrev pub reads_in : List CrateRead → List ReadRecord
reads_in crates = flat_map (λ crate. crate.reads) crates

-- the failed reads that are answered rise one after another, between the tree's counts at the start and at the end
abbrev pub FailedReadsRise : TreeSeen → List CrateRead → Type 0
FailedReadsRise tree crates = RiseInOrder tree.count_before (reads_in crates) tree.count_after

pub record IsListRun (given : ListArguments) (tree : TreeSeen) (err out : SinkSeen)
    (result : Result (List CrateRead) Error) : Type 0 where
  -- Where a part of the request is not carried, that is the refusal; no call is made, and nothing is written.
  pub unsupported : (what : UnsupportedPart) → given.command.options.unsupported ≡ Some what
      → (result ≡ Err (NotCarried what)) × IsUntouched tree × IsSilent err × IsSilent out
  -- Else the listing that is asked for by what was read is written, whatever the tree tells of its content, and nothing
  -- else was read; each refusal is the first one, by its cause.
  pub lists : given.command.options.unsupported ≡ None → Lists given tree err out result
  -- A failed read has a cause, and failed reads that are answered rise.
  pub counts : IfErr result (λ error. ReadCounts tree.count_before tree.count_before tree.count_after (cause_of error))
  pub rises : IfOk result (FailedReadsRise tree)
  -- The counts of faults of the sinks never fall.
  pub later : err.before ≤ err.after
  pub out_later : out.before ≤ out.after
  -- Lawful input without a fault is listed, or memory was wanting: by what was read.
  pub complete_read : (hearing : RequestHearing) (behind : List Call) (asked : PolicyAndCrates)
      → IsLawfulRead given.command tree hearing behind asked → AreQuiet err out → EndsLawful result
  -- The same by the content, where the tree tells it.
  pub complete : ForSome tree.told (λ content. (hearing : RequestHearing) (asked : PolicyAndCrates)
      → IsLawfulIn given.command content tree hearing asked → AreQuiet err out → EndsLawful result)
