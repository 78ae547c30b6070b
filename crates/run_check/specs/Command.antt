-- What the command `check` promises.
use Rattle.std.specs.Prelude.{◌≡◌, ◌≤◌, None, Some, Result, Err, IfErr, IfOk}
use Rattle.std.specs.Option.{ForSome}
use Rattle.tree_core.specs.texts.Cause.{ReadCounts}
use Rattle.graph_workspace.specs.declared.error.UnsupportedPart.{UnsupportedPart}
use Rattle.run_found.specs.declared.error.Error.{Error}
use Rattle.run_found.specs.declared.error.Error.TheVariants.{NotCarried}
use Rattle.run_found.specs.Error.{cause_of}
use Rattle.run_found.specs.Hearing.{HasMade, TreeSeen}
use Rattle.run_found.specs.Written.{IsSilent, SinkSeen}
use Rattle.run_command.specs.Given.{CommandArguments}
use Rattle.run_command.specs.Prelude.{IsUntouched}
use Rattle.run_check.specs.declared.report.Report.{Report}
use Rattle.run_check.specs.Headline.{CheckHeadline, CheckHeadlineRead}
use Rattle.run_check.specs.Named.{FailedReadsRise, ReportsCertificates, ReportsFindings, ReportsOwnReads, ReportsPolicy}
use Rattle.run_check.specs.Named.{ReportsUnneeded}
use Rattle.run_check.specs.Report.{LabelsLie}
use Rattle.run_check.specs.Script.{WritesCheck}

pub record IsCheckRun (given : CommandArguments) (tree : TreeSeen) (err : SinkSeen)
    (result : Result Report Error) : Type 0 where
  -- Where a part of the request is not carried, that is the refusal; no call is made, and nothing is written.
  pub unsupported : (what : UnsupportedPart) → given.options.unsupported ≡ Some what
      → (result ≡ Err (NotCarried what)) × IsUntouched tree × IsSilent err
  -- Else what was read asks for is answered, whatever the tree tells of its content, and nothing else was read; each
  -- refusal is the first one, by its cause; and what is reported of that was written.
  pub written : given.options.unsupported ≡ None → WritesCheck given tree err result
  -- Calls were made on the tree, and nothing else came of it.
  pub made : HasMade tree
  -- A failed read has a cause.
  pub counts : IfErr result (λ error. ReadCounts tree.count_before tree.count_before tree.count_after (cause_of error))
  -- The sink's count of faults never falls.
  pub later : err.before ≤ err.after
  -- Each label of each finding lies in the text of its file, between characters.
  pub labels : LabelsLie result
  -- The headline, by what was read.
  pub headline_read : CheckHeadlineRead given tree err result
  -- The headline, by the content where the tree tells it.
  pub headline : ForSome tree.told (λ content. CheckHeadline given content tree err result)
  -- Each crate's reads are its own, and they are listed as they were answered.
  pub own_reads : IfOk result (ReportsOwnReads given tree)
  -- The failed reads that are listed rise one after another.
  pub rises : IfOk result (FailedReadsRise tree)
  -- The policy that is reported is that of the bytes, its lists in order.
  pub reported_policy : IfOk result (ReportsPolicy given tree)
  -- What was found is reported, with labels that cut out what they say.
  pub reported_findings : IfOk result (ReportsFindings given tree)
  -- The entries of the policy that no crate needs are those that are reported.
  pub hits : IfOk result (ReportsUnneeded given tree)
  -- Each verdict has what shows it.
  pub certificates : IfOk result (ReportsCertificates given tree)
