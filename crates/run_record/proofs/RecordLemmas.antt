-- The ends of recording.
use Rattle.std.proofs.Common.{◌≡◌, ◌∙◌, inl, inr, refl, sym, ap, subst, ℕ, List, [], ◌∷◌, map, Option, Some, None, Result, Ok, Err, IfErr}
use Rattle.std.specs.Prelude.{IfSome}
use Rattle.std.specs.List.{AllByRecursion, AllZip}
use Rattle.tree_core.specs.texts.Cause.{ReadCounts}
use Rattle.spdx_core.specs.Expressions.{IsExpression}
use Rattle.spdx_core.specs.Reading.{ExpressionView}
use Rattle.spdx_core.specs.declared.certificates.verdict.Verdict.{Verdict}
use Rattle.spdx_core.specs.declared.certificates.verdict.Verdict.TheVariants.{Skipped, Unlicensed, Accepted, Rejected}
use Rattle.graph_core.specs.Krate.{ids_in}
use Rattle.graph_core.specs.Metadata.{AreRising}
use Rattle.policy_core.specs.valid.Policy.{Policy}
use Rattle.policy_core.specs.valid.View.{policy_of}
use Rattle.policy_core.specs.declared.valid.policy.ValidConfig.{ValidConfig}
use Rattle.gather_core.specs.Calls.{ReadsOfCrate}
use Rattle.check_core.specs.Verdicts.{IsVerdictShown, is_skipped}
use Rattle.check_core.specs.evaluate.Evaluation.{term_hits}
use Rattle.check_record.specs.declared.items.RecordItem.{RecordItem}
use Rattle.check_record.specs.Items.{IsRecord, IsRecordItem, all_rise, ids_of, is_before}
use Rattle.check_verify.specs.Recorded.{IsRecordable}
use Rattle.check_verify.proofs.Records.{rising}
use Rattle.check_verify.proofs.Rising.{accepted_recordable, rejected_recordable}
use Rattle.run_found.specs.declared.error.Error.{Error}
use Rattle.run_found.specs.declared.error.Error.TheVariants.{Memory, WriteFault}
use Rattle.run_found.specs.declared.reads.CrateRead.{CrateRead}
use Rattle.run_found.specs.Error.{cause_of}
use Rattle.run_found.specs.Hearing.{RequestHearing, TreeSeen}
use Rattle.run_found.specs.Licenses.{counted_heard}
use Rattle.run_found.specs.Written.{IsSilent, SinkSeen}
use Rattle.run_command.specs.Given.{CommandArguments}
use Rattle.run_command.specs.Settled.{HearsSo}
use Rattle.run_command.specs.Written.{IsWriteFault}
use Rattle.run_command.proofs.WrittenLemmas.{write_counts}
use Rattle.check_core.specs.declared.report.CrateReport.{CrateReport}
use Rattle.run_check.specs.declared.report.Report.{Report}
use Rattle.run_check.specs.Report.{IsReport, IsReportOf}
use Rattle.run_check.proofs.ReportLemmas.{reported_stops}
use Rattle.run_record.specs.Judged.{AreJudged, IsJudgedReport}
use Rattle.run_record.specs.Recorded.{CutsRecord, IsRecorded, Records, RecordsOn, item_in, items_in}

-- ---- verdicts that can be recorded

shown_recordable : (policy : Policy) (counted : List ℕ) (expression : Option ExpressionView) (verdict : Verdict) → IfSome expression (λ view. IsExpression view.text view.terms view.tree)
    → IsVerdictShown (is_skipped verdict) policy counted expression verdict → IsRecordable verdict
shown_recordable policy counted expression Skipped facts shown = tt
shown_recordable policy counted expression Unlicensed facts shown = tt
shown_recordable policy counted None (Accepted choice hits) facts shown = absurd cc
shown_recordable policy counted (Some view) (Accepted choice hits) facts shown =
    accepted_recordable _ view.tree facts.places (term_hits policy counted view.terms) choice hits shown
shown_recordable policy counted None (Rejected least blocks) facts shown = absurd cc
shown_recordable policy counted (Some view) (Rejected least blocks) facts shown =
    rejected_recordable _ view.tree facts.places (term_hits policy counted view.terms) least blocks shown

pub recordable : (report : CrateReport) → IfSome report.expression (λ view. IsExpression view.text view.terms view.tree) → IsJudgedReport report → IsRecordable report.verdict
recordable report facts judged = shown_recordable judged.policy judged.counted report.expression report.verdict facts judged.verdict.shown

-- ---- reports that can be recorded

module _ (given : CommandArguments) (policy : ValidConfig) where
  each_judged : (crates : List ReadsOfCrate) (reports : List CrateReport) → AllZip (IsReportOf given policy) crates reports → AllByRecursion IsJudgedReport reports
  each_judged [] [] each = tt
  each_judged [] (report ∷ reports) each = absurd each
  each_judged (one ∷ crates) [] each = absurd each
  each_judged (one ∷ crates) (report ∷ reports) each =
      (record { policy = policy_of policy; krate = one.krate; counted = counted_heard policy one; verdict = each.0.verdict }, each_judged crates reports each.1)

  ids_reported : (crates : List ReadsOfCrate) (reports : List CrateReport) → AllZip (IsReportOf given policy) crates reports
      → map (λ (report : CrateReport). report.id) reports ≡ ids_in (map (λ (one : ReadsOfCrate). one.krate) crates)
  ids_reported [] [] each = refl
  ids_reported [] (report ∷ reports) each = absurd each
  ids_reported (one ∷ crates) [] each = absurd each
  ids_reported (one ∷ crates) (report ∷ reports) each =
      ap (λ id. id ∷ map (λ (report : CrateReport). report.id) reports) each.0.id ∙ ap (λ ids. one.krate.id ∷ ids) (ids_reported crates reports each.1)

pub are_judged : (given : CommandArguments) (hearing : RequestHearing) (report : Report) → IsReport given hearing report → AreJudged report.crates
are_judged given hearing report is =
    let verdicts = is.verdicts.gives.verdicts in
    let ids = ids_reported given report.policy hearing.crates report.crates verdicts ∙ ap ids_in is.verdicts.settled.crates in
    record {
      rising = subst AreRising (sym ids) is.verdicts.settled.asks.selected.rising;
      each = each_judged given report.policy hearing.crates report.crates verdicts;
    }

-- ---- a record of them

recorded_ids : (reports : List CrateReport) → ids_of (map item_in reports) ≡ map (λ (report : CrateReport). report.id) reports
recorded_ids [] = refl
recorded_ids (report ∷ reports) = ap (λ ids. report.id ∷ ids) (recorded_ids reports)

pub is_record : (reports : List CrateReport) (items : List RecordItem) → AreJudged reports → items ≡ map item_in reports → AllByRecursion IsRecordItem items → IsRecord items
is_record reports items judged same each = record {
  ids_rise = ap (λ (all : List RecordItem). all_rise is_before (ids_of all)) same ∙ ap (all_rise is_before) (recorded_ids reports)
      ∙ rising (map (λ (report : CrateReport). report.id) reports) judged.rising;
  each = each;
}

-- ---- the ends

module _ (given : CommandArguments) (tree : TreeSeen) (err : SinkSeen) where
  -- a report was found
  module _ (out : SinkSeen) (report : Report) (hears : HearsSo given tree err (λ hearing. IsReport given hearing report)) where
    recorded : IsRecord (items_in report) → HearsSo given tree err (λ hearing. IsRecorded given report hearing)
    recorded is = record { hearing = hears.hearing; heard = hears.heard; written = hears.written; is_so = (hears.is_so, is) }

    cut_out : (error : Error) → CutsRecord report out error → Records given tree err out (Err error)
    cut_out (WriteFault first last) cut =
        inr (record { value = report; hears = recorded cut.is; cut = record { before = cut.refused.0; after = cut.refused.1; rose = cut.refused.2; front = cut.front } })
    cut_out _ cut = absurd cut.refused

    pub report_ends : (result : Result (List CrateRead) Error) → RecordsOn report out result → Records given tree err out result
    report_ends (Ok reads) ends = record { value = report; hears = recorded ends.is; written = ends.spelled; is_answer = ends.reads_are }
    report_ends (Err error) (inl wants) = subst (λ own. Records given tree err out (Err own)) (sym wants.0) (inl (reported_stops given tree err report hears, wants.1))
    report_ends (Err error) (inr cut) = cut_out error cut

-- for want of memory nothing was written
pub memory_silent : (report : Report) (out : SinkSeen) (result : Result (List CrateRead) Error) → RecordsOn report out result → result ≡ Err Memory → IsSilent out
memory_silent report out (Ok reads) ends is = absurd (cc)
memory_silent report out (Err error) (inl wants) is = wants.1
memory_silent report out (Err error) (inr cut) is = absurd (subst (IsWriteFault out.before out.after) (same is) cut.refused)
  where
    same : {one other : Error} → ◌≡◌ {A = Result (List CrateRead) Error} (Err one) (Err other) → one ≡ other
    same e = cc

-- no such refusal comes of a read
pub report_counts : (report : Report) (out : SinkSeen) (result : Result (List CrateRead) Error) → RecordsOn report out result
    → (begun before after : ℕ) → IfErr result (λ error. ReadCounts begun before after (cause_of error))
report_counts report out (Ok reads) ends begun before after = tt
report_counts report out (Err error) (inl wants) begun before after = subst (λ own. ReadCounts begun before after (cause_of own)) (sym wants.0) tt
report_counts report out (Err error) (inr cut) begun before after = write_counts out.before out.after error cut.refused begun before after
