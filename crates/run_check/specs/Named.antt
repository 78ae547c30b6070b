-- What a check says of a report, part by part: each is a part of what it answers.
use Rattle.std.specs.Prelude.{◌≡◌, List, All}
use Rattle.std.specs.List.{AllZip, flat_map}
use Rattle.tree_core.specs.declared.reads.ReadRecord.{ReadRecord}
use Rattle.tree_core.specs.file_reads.Read.{AreReads, records_of_reads}
use Rattle.tree_core.specs.file_reads.Rising.{RiseInOrder}
use Rattle.gather_core.specs.Calls.{ReadsOfCrate, HasOwnReads, reads_of_all}
use Rattle.policy_core.specs.Policy.{PolicyFound}
use Rattle.policy_core.specs.valid.View.{policy_of}
use Rattle.check_core.specs.Hits.{TellUnneeded}
use Rattle.check_core.specs.Verdicts.{IsVerdictShown, is_skipped}
use Rattle.run_found.specs.Found.{count_metadata, files_loaded}
use Rattle.run_found.specs.Hearing.{RequestHearing, TreeSeen}
use Rattle.run_found.specs.Licenses.{counted_heard}
use Rattle.run_found.specs.Policy.{PolicyAt}
use Rattle.run_command.specs.Found.{IsHeard, PutsInOrder, turns_in}
use Rattle.run_command.specs.Given.{CommandArguments}
use Rattle.check_core.specs.declared.report.CrateReport.{CrateReport}
use Rattle.run_check.specs.declared.report.Report.{Report}
use Rattle.run_check.specs.Found.{all_gathered}
use Rattle.run_check.specs.Report.{TellsFindings, verdicts_in}

-- the reads that a report lists, crate after crate
abbrev pub reads_in : Report → List ReadRecord
reads_in report = flat_map (λ crate. crate.reads) report.crates

-- Each crate's reads are its own: they are those that its turn asks for, they were made, and they are listed as they
-- were answered.
pub record ReportsOwnReads (given : CommandArguments) (tree : TreeSeen) (report : Report) : Type 0 where
  pub hearing : RequestHearing
  pub heard : IsHeard given tree hearing
  pub records : AreReads (count_metadata given.request hearing) (reads_of_all hearing.crates)
  pub own : All HasOwnReads (turns_in given hearing report.policy)
  pub listed : AllZip (λ (one : ReadsOfCrate) (crate : CrateReport). crate.reads ≡ records_of_reads one.reads)
      hearing.crates report.crates

-- the policy that is reported is that of the bytes, its lists put in order
pub record ReportsPolicy (given : CommandArguments) (tree : TreeSeen) (report : Report) : Type 0 where
  pub hearing : RequestHearing
  pub heard : IsHeard given tree hearing
  pub policy : PolicyFound
  pub is : PolicyAt given.request hearing policy
  pub ordered : PutsInOrder given policy report.policy
  pub file : report.policy.file_id ≡ 0

-- what was found is reported, with labels that cut out what they say
pub record ReportsFindings (given : CommandArguments) (tree : TreeSeen) (report : Report) : Type 0 where
  pub hearing : RequestHearing
  pub heard : IsHeard given tree hearing
  pub tells : TellsFindings given.options.levels (files_loaded given.request hearing)
      (turns_in given hearing report.policy) report

-- the entries of the policy that no crate needs are those that are reported
pub record ReportsUnneeded (given : CommandArguments) (tree : TreeSeen) (report : Report) : Type 0 where
  pub hearing : RequestHearing
  pub heard : IsHeard given tree hearing
  pub tells : TellUnneeded report.policy (all_gathered (turns_in given hearing report.policy)) (verdicts_in report)

-- each verdict has what shows it
pub record ReportsCertificates (given : CommandArguments) (tree : TreeSeen) (report : Report) : Type 0 where
  pub hearing : RequestHearing
  pub heard : IsHeard given tree hearing
  pub shown : AllZip (λ (one : ReadsOfCrate) (crate : CrateReport).
      IsVerdictShown (is_skipped crate.verdict) (policy_of report.policy) (counted_heard report.policy one)
      crate.expression crate.verdict) hearing.crates report.crates

-- the failed reads that are listed rise one after another, between the tree's counts at the start and at the end
abbrev pub FailedReadsRise : TreeSeen → Report → Type 0
FailedReadsRise tree report = RiseInOrder tree.count_before (reads_in report) tree.count_after
