-- The steps of a run for a bill, and its ends.
use Rattle.std.proofs.Common.{◌≡◌, ◌∙◌, inl, inr, subst, sym, ap, ℕ, List, [], ◌∷◌, ◌++◌, Option, Some, None, Result, Ok, Err, IfErr}
use Rattle.tree_core.specs.Call.{CallAnswer, Call}
use Rattle.tree_core.specs.Content.{Content}
use Rattle.tree_core.specs.Hearing.{MadeSome}
use Rattle.tree_core.proofs.MadeLemmas.{made_joined, made_these}
use Rattle.tree_core.specs.texts.Cause.{ReadCounts}
use Rattle.tree_core.specs.texts.Heard.{IsTextRead, read_of, text_answered}
use Rattle.tree_core.specs.declared.texts.fault.ReadFault.{ReadFault}
use Rattle.graph_core.specs.Krate.{CrateRecord}
use Rattle.check_core.specs.declared.report.CrateReport.{CrateReport}
use Rattle.run_request.specs.declared.bill.BillArgs.{BillArgs}
use Rattle.run_found.specs.declared.error.Error.{Error}
use Rattle.run_found.specs.declared.error.Error.TheVariants.{Memory, BillText, BillRead, BillSyntax}
use Rattle.run_found.specs.Error.{cause_of}
use Rattle.run_found.specs.Hearing.{TreeSeen, tree_seen}
use Rattle.run_found.specs.Written.{SinkSeen}
use Rattle.run_command.specs.Given.{CommandArguments}
use Rattle.run_command.specs.Settled.{HearsSo}
use Rattle.run_command.specs.Stops.{Stops}
use Rattle.run_command.proofs.WrittenLemmas.{write_counts}
use Rattle.run_check.specs.declared.judged.JudgedCrates.{JudgedCrates}
use Rattle.run_check.specs.Judged.{Judges, crates_judged}
use Rattle.run_check.proofs.ReportLemmas.{reported_stops}
use Rattle.run_bill.specs.declared.billed.BilledCrates.{BilledCrates}
use Rattle.run_bill.specs.declared.billed.ReportedBill.{ReportedBill}
use Rattle.run_bill.specs.Bills.{IsUnfit, first_unfit}
use Rattle.run_bill.specs.Billed.{ComparesBy, ComparesFirst, FindsBill, Tells, TellsBill, WritesBill, reported_bill}
use Rattle.run_bill.specs.Steps.{IsCompared, IsReportedBill, Puts, TellsHeard}

module _ (given : CommandArguments) (words : BillArgs) (tree : TreeSeen) (err : SinkSeen) where
  -- ---- a bill is found

  -- memory was wanting once there was a report
  judged_stops : (judged : JudgedCrates) → Judges given tree err (Ok judged) → Stops given tree err Memory
  judged_stops judged judges =
      reported_stops given tree err judged.report
      (record { hearing = judges.hearing; heard = judges.heard; written = judges.written; is_so = judges.is_so.report })

  pub found_by : (judged : JudgedCrates) → Judges given tree err (Ok judged) → (result : Result ReportedBill Error) → IsReportedBill words (crates_judged judged) judged.report.crates result
      → FindsBill given words tree err result
  found_by judged judges (Ok made) is = record {
    hearing = judges.hearing;
    heard = judges.heard;
    written = judges.written;
    is_so = record {
      report = judged.report;
      is = judges.is_so.report;
      fits = subst (λ crates. first_unfit crates ≡ None) judges.is_so.crates is.0;
      made_is = is.1 ∙ ap (λ crates. reported_bill words crates judged.report.crates) judges.is_so.crates;
    };
  }
  found_by judged judges (Err Memory) is = inl (judged_stops judged judges)
  found_by judged judges (Err (BillText id)) is = inr (record {
    hearing = judges.hearing;
    heard = judges.heard;
    written = judges.written;
    is_so = record {
      report = judged.report;
      is = judges.is_so.report;
      unfit = subst (λ crates. IsUnfit crates id) judges.is_so.crates is;
    };
  })
  found_by judged judges (Err _) is = absurd is

  -- ---- it is written

  module _ (out : SinkSeen) (made : ReportedBill) (hears : HearsSo given tree err (λ hearing. TellsBill given words hearing made)) where
    made_stops : Stops given tree err Memory
    made_stops =
        reported_stops given tree err hears.is_so.report
        (record { hearing = hears.hearing; heard = hears.heard; written = hears.written; is_so = hears.is_so.is })

    pub written_by : (result : Result BilledCrates Error) → Puts made out result → WritesBill given words tree err out result
    written_by (Ok billed) puts = record { value = made; hears = hears; written = puts.lines; is_answer = puts.billed_is }
    written_by (Err error) (inl wants) =
        subst (λ own. WritesBill given words tree err out (Err own)) (sym wants.0) (inl (inl made_stops, wants.1))
    written_by (Err error) (inr cut) = inr (record { made = made; hears = hears; refused = cut.refused; front = cut.front })

-- ---- what a refusal comes of

-- no name has the counts of a read
pub bill_counts : (words : BillArgs) (crates : List CrateRecord) (reports : List CrateReport) (result : Result ReportedBill Error) → IsReportedBill words crates reports result
    → (begun before after : ℕ) → IfErr result (λ error. ReadCounts begun before after (cause_of error))
bill_counts words crates reports (Ok made) is begun before after = tt
bill_counts words crates reports (Err Memory) is begun before after = tt
bill_counts words crates reports (Err (BillText id)) is begun before after = tt
bill_counts words crates reports (Err _) is begun before after = absurd is

-- nor has a write
pub put_counts : (made : ReportedBill) (out : SinkSeen) (result : Result BilledCrates Error) → Puts made out result
    → (begun before after : ℕ) → IfErr result (λ error. ReadCounts begun before after (cause_of error))
put_counts made out (Ok billed) puts begun before after = tt
put_counts made out (Err error) (inl wants) begun before after =
    subst (λ own. ReadCounts begun before after (cause_of own)) (sym wants.0) tt
put_counts made out (Err error) (inr cut) begun before after = write_counts out.before out.after error cut.refused begun before after

-- nor has the read of the file, which is not since the run began
pub file_counts : (made : ReportedBill) (path : List ℕ) (tree : TreeSeen) (result : Result BilledCrates Error) → IsCompared made path tree result
    → (begun before after : ℕ) → IfErr result (λ error. ReadCounts begun before after (cause_of error))
file_counts made path tree (Ok billed) is begun before after = tt
file_counts made path tree (Err Memory) is begun before after = tt
file_counts made path tree (Err (BillRead fault reads)) is begun before after = tt
file_counts made path tree (Err BillSyntax) is begun before after = tt
file_counts made path tree (Err _) is begun before after = absurd is.tells

-- ---- the file

module _ (made : ReportedBill) (path : List ℕ) (first tells : Option Content) (before after : ℕ) (old new : List Call) (calls : MadeSome first tells before after old new) where
  abbrev own : TreeSeen
  own = tree_seen first tells before after old new

  -- something was read of it
  pub heard_read : (begun : ℕ) (heard : Result (List ℕ) ReadFault) → begun ≡ before → IsTextRead begun after old new path heard → (result : Result BilledCrates Error)
      → TellsHeard made heard result → IsCompared made path own result
  heard_read begun heard same read result tells_so = record {
    answer = read.answer;
    calls = made_these calls read.made;
    tells = tells_so before read.answer (subst (λ n. text_answered before n read.answer ≡ Some heard) (made_these calls read.made).counts
        (subst (λ n. text_answered n after read.answer ≡ Some heard) same read.hears));
  }

  -- memory was wanting in the read
  pub none_read : (answer : CallAnswer) → new ≡ old ++ read_of path answer ∷ [] → IsCompared made path own (Err Memory)
  none_read answer traced = record { answer = answer; calls = made_these calls traced; tells = tt }

-- the file was read, once the bill was made
module _ (given : CommandArguments) (words : BillArgs) (path : List ℕ) (told middle tells : Option Content) (begun mid after : ℕ) (old between more : List Call) (err : SinkSeen)
    (made : ReportedBill) (hears : HearsSo given (tree_seen told middle begun mid old between) err (λ hearing. TellsBill given words hearing made)) where
  compares_by : (result : Result BilledCrates Error) → IsCompared made path (tree_seen middle tells mid after between more) result
      → ComparesBy given words path (tree_seen told tells begun after old more) err (Tells result)
  compares_by result read = record {
    hearing = hears.hearing;
    made = made;
    answer = read.answer;
    begun = hears.heard.begun;
    calls = made_joined hears.heard.made read.calls;
    tells = hears.is_so;
    written = hears.written;
    is_so = subst (λ n. Tells result made n read.answer) hears.heard.made.counts read.tells;
  }

  pub compared_by : (result : Result BilledCrates Error) → IsCompared made path (tree_seen middle tells mid after between more) result
      → ComparesFirst given words path (tree_seen told tells begun after old more) err result
  compared_by (Ok billed) read = compares_by (Ok billed) read
  compared_by (Err error) read = inr (compares_by (Err error) read)
