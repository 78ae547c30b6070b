-- What is said of a crate, by the report of the check on it: the same as by its turn.
use Rattle.std.specs.Prelude.{◌≡◌, ℕ, Bool, true, false, not, List, [], Option, Some, None, IfSome}
use Rattle.spdx_core.specs.Reading.{ExpressionView}
use Rattle.spdx_core.specs.declared.certificates.verdict.Hit.{Hit}
use Rattle.spdx_core.specs.declared.certificates.verdict.Verdict.{Verdict}
use Rattle.spdx_core.specs.declared.certificates.verdict.Verdict.TheVariants.{Skipped, Unlicensed, Accepted, Rejected}
use Rattle.spdx_core.specs.certificates.Certificates.{has_hit}
use Rattle.graph_core.specs.Krate.{CrateRecord}
use Rattle.diag_core.specs.File.{File}
use Rattle.policy_core.specs.declared.valid.policy.ValidConfig.{ValidConfig}
use Rattle.gather_license.specs.expression.Kept.{kept_by}
use Rattle.gather_license.specs.expression.Scanned.{Scanner}
use Rattle.gather_core.specs.declared.findings.license.LicenseExprSource.{LicenseExprSource}
use Rattle.check_core.specs.declared.report.CrateReport.{CrateReport}
use Rattle.check_core.specs.declared.report.ExpressionPlace.{ExpressionPlace}
use Rattle.check_core.specs.Reports.{license_place, license_source}
use Rattle.check_core.specs.Turns.{expression_of}
use Rattle.check_core.specs.findings.Sources.{source_text}
use Rattle.check_why.specs.declared.answer.CrateAnswer.{CrateAnswer}
use Rattle.check_why.specs.declared.answer.CrateTitle.{CrateTitle}
use Rattle.check_why.specs.declared.answer.LicenseAnswer.{LicenseAnswer}
use Rattle.check_why.specs.declared.answer.TermAnswer.{TermAnswer}
use Rattle.check_why.specs.declared.answer.VerdictAnswer.{VerdictAnswer}
use Rattle.check_why.specs.Answer as answer
use Rattle.check_why.specs.Answer.{CheckedCrate, answer_of, title_of}
use Rattle.check_why.specs.Kept.{answers_by, unmet_answers}
use Rattle.check_why.specs.Place.{PlaceIsInside, begin_of, place_at}

-- ---- what a report has

-- the place of an expression lies in its file
abbrev pub IsPlaceInside : List File → ExpressionPlace → Type 0
IsPlaceInside files place = PlaceIsInside files place.file (begin_of place)

abbrev pub IsReportInside : List File → CrateReport → Type 0
IsReportInside files report = IfSome report.place (IsPlaceInside files)

-- ---- the expression

abbrev pub license_at : List File → ExpressionView → LicenseExprSource → ExpressionPlace → LicenseAnswer
license_at files expression source place =
    record { text = expression.text; source = source_text source; place = place_at files place.file (begin_of place) }

abbrev pub license_by : List File → Option ExpressionView → Option LicenseExprSource → Option ExpressionPlace
    → Option LicenseAnswer
license_by files (Some expression) (Some source) (Some place) = Some (license_at files expression source place)
license_by files (Some expression) (Some source) None = None
license_by files (Some expression) None place = None
license_by files None source place = None

abbrev pub license_answer : List File → CrateReport → Option LicenseAnswer
license_answer files report = license_by files report.expression report.source report.place

-- ---- the verdict

abbrev pub fails : List (Option Hit) → ℕ → Bool
fails hits place = not (has_hit hits place)

abbrev pub hits_for : ValidConfig → CrateReport → List (Option Hit)
hits_for policy report = answer.hits_for policy report.exceptions report.expression

abbrev pub verdict_answer : List (Option Hit) → Verdict → VerdictAnswer
verdict_answer hits verdict = answer.verdict_answer hits verdict

abbrev pub is_skipped : Verdict → Bool
is_skipped Skipped = true
is_skipped Unlicensed = false
is_skipped (Accepted choice by) = false
is_skipped (Rejected least blocks) = false

abbrev pub terms_for : List File → ValidConfig → CrateReport → List (Option Hit) → List TermAnswer
terms_for files policy report hits = answer.terms_by files policy report.expression report.verdict hits

-- ---- all of it

abbrev pub answer_by : List File → ValidConfig → CrateRecord → CrateReport → List CrateTitle → CrateAnswer
answer_by files policy krate report needed_by = record {
  title = title_of krate;
  verdict = verdict_answer (hits_for policy report) report.verdict;
  license = license_answer files report;
  terms = terms_for files policy report (hits_for policy report);
  needed_by = needed_by;
  reads = answers_by report.reads report.kept;
  unmet = unmet_answers files policy krate report.kept;
  notes = report.notes;
}

-- ---- by a turn

-- a report tells what was gathered of a crate, its reads, what is kept of its licence files, and its verdict
pub record IsReportOn (scanner : Scanner) (one : CheckedCrate) (report : CrateReport) : Type 0 where
  pub expression : report.expression ≡ expression_of one.gathered.info
  pub source : report.source ≡ license_source one.gathered.info
  pub place : report.place ≡ license_place one.gathered.info
  pub exceptions : report.exceptions ≡ one.gathered.exceptions
  pub notes : report.notes ≡ one.gathered.notes
  pub reads : report.reads ≡ one.reads
  pub kept : report.kept ≡ kept_by scanner one.known_reads one.reads
  pub verdict : report.verdict ≡ one.verdict
