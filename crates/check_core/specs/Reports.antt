-- The report on a crate, by its licence and the verdict on it.
use Rattle.std.specs.Prelude.{List, [], ◌∷◌, map, Option, Some, None}
use Rattle.spdx_core.specs.declared.certificates.verdict.Verdict.{Verdict}
use Rattle.gather_core.specs.declared.findings.license.LicenseExprInfo.{LicenseExprInfo}
use Rattle.gather_core.specs.declared.findings.license.LicenseExprSource.{LicenseExprSource}
use Rattle.gather_core.specs.declared.findings.license.LicenseInfo.{LicenseInfo}
use Rattle.gather_core.specs.declared.findings.license.LicenseInfo.TheVariants.{SpdxExpression, Unlicensed}
use Rattle.gather_core.specs.Gathered.{krate_of}
use Rattle.gather_core.specs.declared.summary.KrateLicense.{KrateLicense}
use Rattle.check_core.specs.declared.report.CrateReport.{CrateReport}
use Rattle.check_core.specs.declared.report.ExpressionPlace.{ExpressionPlace}
use Rattle.check_core.specs.Turns.{expression_of}

-- where the expression of a licence comes from
abbrev pub license_source : LicenseInfo → Option LicenseExprSource
license_source Unlicensed = None
license_source (SpdxExpression expression nfo) = Some nfo.source

-- where an expression is
abbrev pub place_of : LicenseExprInfo → ExpressionPlace
place_of nfo = record { file = nfo.file_id; offset = nfo.offset; whole = nfo.whole }

abbrev pub license_place : LicenseInfo → Option ExpressionPlace
license_place Unlicensed = None
license_place (SpdxExpression expression nfo) = Some (place_of nfo)

-- the report on a crate, by its licence and the verdict on it
abbrev pub report_of : KrateLicense → Verdict → CrateReport
report_of license verdict = record {
  id = (krate_of license).id;
  reads = license.reads;
  expression = expression_of license.lic_info;
  source = license_source license.lic_info;
  place = license_place license.lic_info;
  notes = license.notes;
  exceptions = license.exceptions;
  kept = license.kept;
  verdict = verdict;
}

-- one for each crate, in order
abbrev pub reports_of : List KrateLicense → List Verdict → List CrateReport
reports_of [] verdicts = []
reports_of (license ∷ more) [] = []
reports_of (license ∷ more) (verdict ∷ verdicts) = report_of license verdict ∷ reports_of more verdicts

-- the verdicts that reports tell, in order
abbrev pub verdicts_of : List CrateReport → List Verdict
verdicts_of reports = map (λ (report : CrateReport). report.verdict) reports
