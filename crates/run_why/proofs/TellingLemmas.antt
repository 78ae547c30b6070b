-- The texts of the crates that are told, one crate after another.
use Rattle.std.proofs.Common.{◌≡◌, ◌∙◌, sym, ap, ap₂, ℕ, suc, ◌+◌, ◌<◌, ◌≤◌, Bool, List, ◌++◌, append_assoc, append-nil, length, drop, All, Option, Some, None, IfSome, option_copied, Result, Ok, Err, IfOk, arith}
use Rattle.std.specs.Borrow.{Bor}
use Rattle.std.specs.Prelude.{slice_get}
use Rattle.std.proofs.lemmas.List.{at_drop_all, at_drop_more}
use Rattle.std.proofs.lemmas.List.Elements.{recursion_from_All}
use Rattle.std.specs.declared.alloc.AllocError.{AllocError}
use Rattle.diag_core.specs.File.{File}
use Rattle.diag_print.specs.declared.context.Format.{Format}
use Rattle.graph_core.specs.Krate.{CrateRecord}
use Rattle.graph_walk.specs.declared.unchecked.Unchecked.{Unchecked}
use Rattle.check_core.specs.declared.report.CrateReport.{CrateReport}
use Rattle.check_why.specs.Made.{IsReportInside}
use Rattle.check_why.proofs.InsideLemmas.{at_place}
use Rattle.run_check.specs.declared.judged.JudgedCrates.{JudgedCrates}
use Rattle.run_check.specs.Judged.{crates_judged}
use Rattle.run_why.specs.declared.graph.GraphTold.{GraphTold}
use Rattle.run_why.specs.declared.telling.Telling.{Telling}
use Rattle.run_why.specs.Steps.{AreTexts, TellsTexts, behind, cause_at, texts_at, texts_from, texts_of}

-- from a place on: what is told of the crate there, and then from the next one on
pub texts_on : (telling : Telling) (place next : ℕ) (causes : List (Option Unchecked)) (krates : List CrateRecord) (reports : List CrateReport) → place < length causes
    → texts_from telling place next (drop place causes) krates reports
    ≡ texts_at telling place (cause_at causes place) (slice_get krates next) (slice_get reports next)
    ++ texts_from telling (suc place) (behind (cause_at causes place) next) (drop (place + 1) causes) krates reports
texts_on telling place next causes krates reports within =
    at_drop_more (λ (rest : List (Option Unchecked)). texts_from telling place next rest krates reports) causes place None within

plus_one : (n : ℕ) → suc n ≡ n + 1
plus_one n = omega arith

-- with what is told of the crate there
pub texts_more : (telling : Telling) (place next : ℕ) (before after : List (List ℕ)) (krates : List CrateRecord) (krate : Option CrateRecord) (report : Option CrateReport) (all : List (List ℕ))
    → place < length telling.told.now.causes.items → krate ≡ slice_get krates next → report ≡ slice_get telling.report.now.crates next
    → after ≡ before ++ texts_at telling place (cause_at telling.told.now.causes.items place) krate report
    → before ++ texts_from telling place next (drop place telling.told.now.causes.items) krates telling.report.now.crates ≡ all
    → after ++ texts_from telling (place + 1) (behind (cause_at telling.told.now.causes.items place) next) (drop (place + 1) telling.told.now.causes.items) krates telling.report.now.crates ≡ all
texts_more telling place next before after krates krate report all within krate_is report_is is so_far =
    let causes = telling.told.now.causes.items in
    let cause = cause_at causes place in
    let here = texts_at telling place cause krate report in
    let rest : ℕ → List (List ℕ) = λ n. texts_from telling n (behind cause next) (drop (place + 1) causes) krates telling.report.now.crates in
    ap₂ (λ (front : List (List ℕ)) (n : ℕ). front ++ rest n) is (sym (plus_one place))
    ∙ append_assoc before here (rest (suc place))
    ∙ ap₂ (λ (krate : Option CrateRecord) (report : Option CrateReport). before ++ (texts_at telling place cause krate report ++ rest (suc place))) krate_is report_is
    ∙ ap (λ (back : List (List ℕ)). before ++ back) (sym (texts_on telling place next causes krates telling.report.now.crates within))
    ∙ so_far

-- behind the last one
pub texts_end : (telling : Telling) (place next : ℕ) (texts : List (List ℕ)) (krates : List CrateRecord) (all : List (List ℕ)) → length telling.told.now.causes.items ≤ place
    → texts ++ texts_from telling place next (drop place telling.told.now.causes.items) krates telling.report.now.crates ≡ all → texts ≡ all
texts_end telling place next texts krates all past so_far =
    let causes = telling.told.now.causes.items in
    sym (append-nil texts)
    ∙ sym (at_drop_all (λ (rest : List (Option Unchecked)). texts ++ texts_from telling place next rest krates telling.report.now.crates) causes place past)
    ∙ so_far

-- the report at a place lies in its files
pub next_inside : (files : List File) (reports : List CrateReport) (next : ℕ) (found : Option (Bor CrateReport)) → All (IsReportInside files) reports → option_copied found ≡ slice_get reports next
    → IfSome found (λ own. IsReportInside files own.now)
next_inside files reports next None all is = tt
next_inside files reports next (Some own) all is = at_place (IsReportInside files) reports next own.now (recursion_from_All (IsReportInside files) reports all) (sym is)

pub behind_next : (cause : Option Unchecked) (next : ℕ) → behind cause next ≤ next + 1
behind_next (Some cause) next = omega arith
behind_next None next = omega arith

-- the texts are by the report that was made
pub tells_by : (telling : Telling) (format : Format) (has_words : Bool) (told : GraphTold) (judged : JudgedCrates) (krates : List CrateRecord) (result : Result (List (List ℕ)) AllocError)
    → telling.format ≡ format → telling.has_words ≡ has_words → telling.told.now ≡ told → telling.report.now ≡ judged.report → krates ≡ crates_judged judged
    → IfOk result (AreTexts telling krates) → IfOk result (TellsTexts format has_words told judged)
tells_by telling format has_words told judged krates (Ok texts) format_is words_are told_is report_is listed is = record {
  telling = telling;
  format_is = format_is;
  words_are = words_are;
  told_is = told_is;
  report_is = report_is;
  texts_are = is.are ∙ ap (texts_of telling) listed;
}
tells_by telling format has_words told judged krates (Err error) format_is words_are told_is report_is listed is = tt
