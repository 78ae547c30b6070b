-- Parts of what a check answers, by name.
use Rattle.std.proofs.Common.{◌≡◌, ◌∙◌, refl, sym, ap₂, subst, List, [], ◌∷◌, ◌++◌}
use Rattle.std.specs.List.{AllZip, flat_map}
use Rattle.tree_core.specs.declared.reads.ReadRecord.{ReadRecord}
use Rattle.tree_core.specs.file_reads.Read.{records_of_reads}
use Rattle.tree_core.specs.file_reads.Rising.{RiseInOrder}
use Rattle.tree_core.proofs.file_reads.ReadLemmas.{records_in-append}
use Rattle.gather_core.specs.Calls.{ReadsOfCrate, reads_of_all}
use Rattle.gather_core.proofs.ZipLemmas.{zip_weaker}
use Rattle.policy_core.specs.valid.View.{policy_of}
use Rattle.check_core.specs.Verdicts.{IsVerdictShown, is_skipped}
use Rattle.check_core.proofs.HitLemmas.{tells_the_unneeded}
use Rattle.run_found.specs.Hearing.{RequestHearing, TreeSeen}
use Rattle.run_found.specs.Licenses.{counted_heard}
use Rattle.run_command.specs.Found.{IsHeard, turns_in}
use Rattle.run_command.specs.Given.{CommandArguments}
use Rattle.run_command.proofs.RiseLemmas.{reads_rise_between}
use Rattle.check_core.specs.declared.report.CrateReport.{CrateReport}
use Rattle.run_check.specs.declared.report.Report.{Report}
use Rattle.run_check.specs.Found.{all_gathered}
use Rattle.run_check.specs.Named.{FailedReadsRise, ReportsCertificates, ReportsFindings, ReportsOwnReads, ReportsPolicy, ReportsUnneeded}
use Rattle.run_check.specs.Report.{IsReport, IsReportOf, verdicts_in}

-- the reads that reports list
reads_listed : (crates : List ReadsOfCrate) (reports : List CrateReport) → AllZip (λ (one : ReadsOfCrate) (crate : CrateReport). crate.reads ≡ records_of_reads one.reads) crates reports
    → records_of_reads (reads_of_all crates) ≡ flat_map (λ (crate : CrateReport). crate.reads) reports
reads_listed [] [] listed = refl
reads_listed [] (report ∷ reports) listed = absurd listed
reads_listed (one ∷ crates) [] listed = absurd listed
reads_listed (one ∷ crates) (report ∷ reports) listed =
    records_in-append one.reads (reads_of_all crates)
    ∙ ap₂ (λ (front back : List ReadRecord). front ++ back) (sym listed.0) (reads_listed crates reports listed.1)

module _ (given : CommandArguments) (tree : TreeSeen) (hearing : RequestHearing) (report : Report) (heard : IsHeard given tree hearing) (is : IsReport given hearing report) where
  listed : AllZip (λ (one : ReadsOfCrate) (crate : CrateReport). crate.reads ≡ records_of_reads one.reads) hearing.crates report.crates
  listed =
      zip_weaker (IsReportOf given report.policy) (λ (one : ReadsOfCrate) (crate : CrateReport). crate.reads ≡ records_of_reads one.reads) (λ one crate own. own.reads)
      hearing.crates report.crates is.verdicts.gives.verdicts

  pub own_of : ReportsOwnReads given tree report
  own_of = record { hearing = hearing; heard = heard; records = is.verdicts.settled.records; own = is.own; listed = listed }

  pub policy_of_report : ReportsPolicy given tree report
  policy_of_report = record {
    hearing = hearing;
    heard = heard;
    policy = is.verdicts.settled.asked.policy;
    is = is.verdicts.settled.asks.policy;
    ordered = is.verdicts.settled.ordered;
    file = is.verdicts.gives.file;
  }

  pub findings_of_report : ReportsFindings given tree report
  findings_of_report = record { hearing = hearing; heard = heard; tells = is.tells }

  pub unneeded_of : ReportsUnneeded given tree report
  unneeded_of = record {
    hearing = hearing;
    heard = heard;
    tells = tells_the_unneeded report.policy (all_gathered (turns_in given hearing report.policy)) (verdicts_in report);
  }

  pub certificates_of : ReportsCertificates given tree report
  certificates_of = record {
    hearing = hearing;
    heard = heard;
    shown =
        zip_weaker (IsReportOf given report.policy)
        (λ (one : ReadsOfCrate) (crate : CrateReport). IsVerdictShown (is_skipped crate.verdict) (policy_of report.policy) (counted_heard report.policy one) crate.expression crate.verdict)
        (λ one crate own. own.verdict.shown) hearing.crates report.crates is.verdicts.gives.verdicts;
  }

  pub rises_of : FailedReadsRise tree report
  rises_of =
      subst (λ (reads : List ReadRecord). RiseInOrder tree.count_before reads tree.count_after) (reads_listed hearing.crates report.crates listed)
      (reads_rise_between given tree hearing heard is.verdicts.settled.due is.verdicts.settled.records)
