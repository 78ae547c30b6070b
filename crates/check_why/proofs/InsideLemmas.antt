-- The places that a policy keeps, and those of reports, lie in their files.
use Rattle.std.proofs.Common.{◌≡◌, ◌∙◌, refl, sym, ap, subst, ℕ, zero, suc, ◌+◌, ◌<◌, ◌≤◌, List, [], ◌∷◌, length, Option, Some, None, IfSome, arith}
use Rattle.std.specs.Prelude.{slice_get, unwrap_or}
use Rattle.std.specs.List.{All, AllByRecursion}
use Rattle.std.specs.Str.{IsCharBoundary}
use Rattle.std.proofs.lemmas.List.Elements.{All-from_recursion}
use Rattle.deny_text.specs.declared.span.Span.{Span}
use Rattle.spdx_core.specs.declared.certificates.verdict.Verdict.{Verdict}
use Rattle.diag_core.specs.declared.label.Label.{Label}
use Rattle.diag_core.specs.declared.label.LabelStyle.TheVariants.{Primary}
use Rattle.diag_core.specs.File.{File, source_of_file}
use Rattle.diag_core.specs.Label.{label_at}
use Rattle.diag_print.specs.Places.{LabelIsInside, source_under}
use Rattle.policy_parts.specs.declared.entries.licensee.Licensee.{Licensee}
use Rattle.policy_core.specs.Places.{ClarificationStands, ExceptionStands, LicenseeStands, LiesInFile, PolicyStands}
use Rattle.policy_core.specs.declared.valid.policy.ValidConfig.{ValidConfig}
use Rattle.policy_core.specs.declared.valid.policy.ValidException.{ValidException}
use Rattle.policy_core.specs.valid.Policy.{Policy}
use Rattle.gather_core.specs.declared.findings.license.LicenseExprInfo.{LicenseExprInfo}
use Rattle.gather_core.specs.declared.findings.license.LicenseInfo.{LicenseInfo}
use Rattle.gather_core.specs.declared.findings.license.LicenseInfo.TheVariants.{SpdxExpression, Unlicensed}
use Rattle.gather_core.specs.declared.summary.KrateLicense.{KrateLicense}
use Rattle.gather_core.specs.findings.Cuts.{LabelLies}
use Rattle.check_core.specs.declared.report.CrateReport.{CrateReport}
use Rattle.check_core.specs.evaluate.Evaluation.{term_hits}
use Rattle.check_core.specs.findings.Findings as findings
use Rattle.check_core.specs.findings.Places.{all_of, span_by}
use Rattle.check_core.specs.Labels.{InfoPoints, VerdictPoints}
use Rattle.check_core.specs.Reports.{license_place, place_of, report_of, reports_of}
use Rattle.check_core.specs.Summary.{gathered_of_license, gathered_of_licenses}
use Rattle.check_core.proofs.LabelLemmas.{pointing_lies}
use Rattle.check_why.specs.Made.{IsPlaceInside, IsReportInside}
use Rattle.check_why.specs.Place.{LicenseesAreInside, PlaceIsInside, begin_by}

-- ---- in a list

the_same : {A : Type 0} (x y : A) → ◌≡◌ {A = Option A} (Some x) (Some y) → x ≡ y
the_same x y e = cc

-- what is so of each is so of the one at a place
pub at_place : {A : Type 0} (P : A → Type 0) (xs : List A) (place : ℕ) (x : A) → AllByRecursion P xs → slice_get xs place ≡ Some x → P x
at_place P [] zero x all is = absurd (cc is)
at_place P [] (suc place) x all is = absurd (cc is)
at_place P (first ∷ xs) zero x all is = subst P (the_same first x is) all.0
at_place P (first ∷ xs) (suc place) x all is = at_place P xs place x all.1 is

-- ---- of a policy

is_live : (files : List File) (id : ℕ) (source : List ℕ) → source_of_file files id ≡ Some source → id < length files
is_live [] zero source is = absurd (cc is)
is_live [] (suc id) source is = absurd (cc is)
is_live (file ∷ files) zero source is = omega arith
is_live (file ∷ files) (suc id) source is = let below : id < length files = is_live files id source is in omega arith

pub lies_inside : (files : List File) (file : ℕ) (span : Span) → LiesInFile files file span → PlaceIsInside files file span
lies_inside files file span lies =
    let own : source_under files (label_at Primary file span []) ≡ lies.text = ap (λ (found : Option (List ℕ)). unwrap_or found []) lies.source in
    record {
      live = is_live files file lies.text lies.source;
      ordered = lies.lies.ordered;
      starts = subst (λ (text : List ℕ). IsCharBoundary text span.start) (sym own) lies.lies.start_border;
      ends = subst (λ (text : List ℕ). IsCharBoundary text span.end) (sym own) lies.lies.end_border;
    }

each_inside : (files : List File) (file : ℕ) (licensees : List Licensee) → AllByRecursion (LicenseeStands files file) licensees
    → AllByRecursion (λ (licensee : Licensee). PlaceIsInside files file licensee.0.span) licensees
each_inside files file [] all = tt
each_inside files file (licensee ∷ licensees) all = (lies_inside files file licensee.0.span all.0, each_inside files file licensees all.1)

pub licensees_inside : (files : List File) (file : ℕ) (licensees : List Licensee) → AllByRecursion (LicenseeStands files file) licensees → LicenseesAreInside files file licensees
licensees_inside files file licensees all =
    All-from_recursion (λ (licensee : Licensee). PlaceIsInside files file licensee.0.span) licensees (each_inside files file licensees all)

-- ---- of reports

from_none : (offset : ℕ) → offset + 0 ≡ offset
from_none offset = omega arith

-- where an expression begins, of whose whole text the label lies in the file
begin_inside : (files : List File) (nfo : LicenseExprInfo) (whole : Option Span) (text : List ℕ) → nfo.whole ≡ whole → LabelLies files (findings.whole_label nfo text)
    → PlaceIsInside files nfo.file_id (begin_by nfo.offset whole)
begin_inside files nfo (Some place) text is lies =
    let range : (findings.whole_label nfo text).range ≡ place = ap (span_by nfo.offset (all_of text)) is in
    record {
      live = lies.live;
      ordered = subst (λ (span : Span). span.start ≤ span.end) range lies.ordered;
      starts = subst (λ (span : Span). IsCharBoundary (unwrap_or (source_of_file files nfo.file_id) []) span.start) range lies.starts;
      ends = subst (λ (span : Span). IsCharBoundary (unwrap_or (source_of_file files nfo.file_id) []) span.end) range lies.ends;
    }
begin_inside files nfo None text is lies =
    let start : (findings.whole_label nfo text).range.start ≡ nfo.offset = ap (λ (whole : Option Span). (span_by nfo.offset (all_of text) whole).start) is ∙ from_none nfo.offset in
    let border = subst (IsCharBoundary (unwrap_or (source_of_file files nfo.file_id) [])) start lies.starts in
    record { live = lies.live; ordered = omega arith; starts = border; ends = border }

info_inside : (files : List File) (policy : Policy) (counted : List ℕ) (info : LicenseInfo) → InfoPoints files policy counted info → IfSome (license_place info) (IsPlaceInside files)
info_inside files policy counted Unlicensed points = tt
info_inside files policy counted (SpdxExpression expression nfo) points =
    begin_inside files nfo nfo.whole expression.text refl (pointing_lies files nfo expression.text (findings.whole_label nfo expression.text) points.whole)

pub reports_inside : (files : List File) (policy : Policy) (licenses : List KrateLicense) (verdicts : List Verdict) → AllByRecursion (VerdictPoints files policy) (gathered_of_licenses licenses)
    → AllByRecursion (IsReportInside files) (reports_of licenses verdicts)
reports_inside files policy [] verdicts points = tt
reports_inside files policy (license ∷ licenses) [] points = tt
reports_inside files policy (license ∷ licenses) (verdict ∷ verdicts) points =
    (info_inside files policy license.exceptions license.lic_info points.0, reports_inside files policy licenses verdicts points.1)
