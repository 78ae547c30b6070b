-- The licences that were gathered, as what was read of crates and as what is reported of them.
use Rattle.std.proofs.Common.{◌≡◌, ◌∙◌, refl, sym, ap, subst, ℕ, List, [], ◌∷◌, map, Option, Some, None}
use Rattle.std.specs.Prelude.{All, option_map, unwrap_or}
use Rattle.std.specs.List.{AllZip}
use Rattle.diag_core.specs.File.{File}
use Rattle.diag_core.specs.declared.label.Coord.{Coord}
use Rattle.gather_license.specs.Priority.{answer_in}
use Rattle.gather_license.specs.declared.settling.JoinedNames.{JoinedNames}
use Rattle.gather_license.specs.declared.settling.LicenseBasis.{LicenseBasis}
use Rattle.gather_license.specs.declared.settling.LicenseBasis.TheVariants.{Clarified, Field, Files}
use Rattle.gather_core.specs.Told.{answer_view, info_by, joined_info, joined_notes, notes_of, no_place, source_view}
use Rattle.gather_core.specs.Turns.{IsCutOut, IsTurn, TurnInput, files_behind, findings_in, info_in, located_in, notes_in, points_in, basis_in}
use Rattle.gather_core.specs.declared.findings.license.LicenseInfo.{LicenseInfo}
use Rattle.gather_core.specs.declared.findings.license.LicenseInfo.TheVariants.{SpdxExpression, Unlicensed}
use Rattle.policy_core.specs.declared.valid.policy.ValidConfig.{ValidConfig}
use Rattle.policy_core.specs.valid.Policy.{Policy}
use Rattle.policy_core.specs.valid.View.{policy_of}
use Rattle.gather_license.specs.expression.Scanned.{Scanner}
use Rattle.gather_core.specs.Calls.{ReadsOfCrate, CrateTurn, IsTurnBy}
use Rattle.gather_core.specs.Exceptions.{counted_of}
use Rattle.gather_core.specs.Gathered.{krate_of}
use Rattle.gather_core.specs.declared.summary.KrateLicense.{KrateLicense}
use Rattle.gather_core.proofs.ZipLemmas.{all_left, same_maps}
use Rattle.check_core.specs.declared.report.CrateReport.{CrateReport}
use Rattle.spdx_core.specs.declared.certificates.verdict.Verdict.{Verdict}
use Rattle.check_core.specs.Check.{AreVerdicts}
use Rattle.check_core.specs.Reports.{license_place, license_source, reports_of}
use Rattle.check_core.specs.Summary.{gathered_of_licenses, gathered_of_license}
use Rattle.check_core.specs.Turns.{GatheredCrate, expression_of}
use Rattle.check_core.specs.Verdicts.{IsVerdict}
use Rattle.run_found.specs.Licenses.{expression_in}
use Rattle.run_command.specs.Found.{scanner_of_given}
use Rattle.run_command.specs.Given.{CommandArguments}
use Rattle.run_command.proofs.TurnLemmas.{turn_at, turns_at}
use Rattle.run_check.specs.Found.{all_gathered, gathered_in}
use Rattle.run_check.specs.Report.{IsReportOf, TellsSource, TellsTurn, source_in}

-- the verdicts that reports tell
pub verdicts_reported : (policy : Policy) (licenses : List KrateLicense) (verdicts : List Verdict) → AreVerdicts policy (gathered_of_licenses licenses) verdicts
    → map (λ (report : CrateReport). report.verdict) (reports_of licenses verdicts) ≡ verdicts
verdicts_reported policy [] [] are = refl
verdicts_reported policy [] (verdict ∷ verdicts) are = absurd are
verdicts_reported policy (license ∷ licenses) [] are = absurd are
verdicts_reported policy (license ∷ licenses) (verdict ∷ verdicts) are = ap (λ rest. verdict ∷ rest) (verdicts_reported policy licenses verdicts are.1)

-- ---- what is reported of a licence

told_expression : (info : LicenseInfo) (notes : List (List ℕ)) → expression_of info ≡ expression_in (answer_view info notes)
told_expression Unlicensed notes = refl
told_expression (SpdxExpression expression nfo) notes = refl

told_source : (info : LicenseInfo) (notes : List (List ℕ)) → option_map source_view (license_source info) ≡ source_in (answer_view info notes)
told_source Unlicensed notes = refl
told_source (SpdxExpression expression nfo) notes = refl

-- nothing is noted where there is no expression
joined_nothing : (place : Coord) (joined : Option JoinedNames) → Unlicensed ≡ joined_info place joined → joined_notes joined ≡ []
joined_nothing place None is = refl
joined_nothing place (Some joined) is = absurd (cc)

settled_nothing : (location : Option Coord) (place : Coord) (by : LicenseBasis) → Unlicensed ≡ info_by location place by → notes_of (answer_in by) ≡ []
settled_nothing location place (Clarified held) is = absurd (cc)
settled_nothing location place (Field expression) is = absurd (cc)
settled_nothing location place (Files seen None) is = refl
settled_nothing location place (Files seen (Some joined)) is = absurd (cc)

told_notes : (turn : TurnInput) (info : LicenseInfo) (notes : List (List ℕ)) → info ≡ info_in turn → notes ≡ notes_in turn → notes ≡ notes_of (answer_view info notes)
told_notes turn Unlicensed notes is noted =
    noted ∙ settled_nothing (located_in turn).location (unwrap_or (points_in turn).expression no_place) (basis_in turn) is
told_notes turn (SpdxExpression expression nfo) notes is noted = refl

-- what the check has looked at is what the turns say
looked_same : (license : KrateLicense) (turn : TurnInput) (table : List File) → turn.krate ≡ krate_of license → IsTurn turn license table → gathered_in turn ≡ gathered_of_license license
looked_same license turn table of_krate is =
    let counted = counted_of turn.exceptions turn.krate turn.known_reads in
    ap (λ krate. let it : GatheredCrate = record { krate = krate; info = info_in turn; gathered = findings_in turn; notes = notes_in turn; exceptions = counted } in it) of_krate
    ∙ ap (λ info. let it : GatheredCrate = record { krate = krate_of license; info = info; gathered = findings_in turn; notes = notes_in turn; exceptions = counted } in it) (sym is.info)
    ∙ ap (λ found. let it : GatheredCrate = record { krate = krate_of license; info = license.lic_info; gathered = found; notes = notes_in turn; exceptions = counted } in it) (sym is.found)
    ∙ ap (λ noted. let it : GatheredCrate = record { krate = krate_of license; info = license.lic_info; gathered = license.diags; notes = noted; exceptions = counted } in it) (sym is.noted)
    ∙ ap (λ those. let it : GatheredCrate = record { krate = krate_of license; info = license.lic_info; gathered = license.diags; notes = license.notes; exceptions = those } in it) (sym is.counted)

module _ (turns : List CrateTurn) (licenses : List KrateLicense) (last : List File) (each : AllZip (IsTurnBy last) turns licenses) where
  pub all_looked : all_gathered turns ≡ gathered_of_licenses licenses
  all_looked =
      same_maps (IsTurnBy last) (λ (own : CrateTurn). gathered_in own.turn) gathered_of_license
      (λ own license is. looked_same license own.turn (files_behind own.turn) is.krate is.turn) turns licenses each

  -- the labels of what is found
  pub labels_cut : All (λ (own : CrateTurn). IsCutOut last own.turn) turns
  labels_cut = all_left (IsTurnBy last) (λ (own : CrateTurn). IsCutOut last own.turn) (λ own license is. is.cuts) turns licenses each

-- each report tells the source of its licence
pub sources_told : (policy : Policy) (turns : List CrateTurn) (licenses : List KrateLicense) (last : List File) (verdicts : List Verdict) → AllZip (IsTurnBy last) turns licenses
    → AreVerdicts policy (gathered_of_licenses licenses) verdicts → AllZip TellsSource turns (reports_of licenses verdicts)
sources_told policy [] [] last verdicts each are = tt
sources_told policy [] (license ∷ licenses) last verdicts each are = absurd each
sources_told policy (own ∷ turns) [] last verdicts each are = absurd each
sources_told policy (own ∷ turns) (license ∷ licenses) last [] each are = absurd are
sources_told policy (own ∷ turns) (license ∷ licenses) last (verdict ∷ verdicts) each are =
    (ap license_source each.0.turn.info, sources_told policy turns licenses last verdicts each.1 are.1)

-- and what else it has of its turn
pub turns_told : (policy : Policy) (turns : List CrateTurn) (licenses : List KrateLicense) (last : List File) (verdicts : List Verdict) → AllZip (IsTurnBy last) turns licenses
    → AreVerdicts policy (gathered_of_licenses licenses) verdicts → AllZip TellsTurn turns (reports_of licenses verdicts)
turns_told policy [] [] last verdicts each are = tt
turns_told policy [] (license ∷ licenses) last verdicts each are = absurd each
turns_told policy (own ∷ turns) [] last verdicts each are = absurd each
turns_told policy (own ∷ turns) (license ∷ licenses) last [] each are = absurd are
turns_told policy (own ∷ turns) (license ∷ licenses) last (verdict ∷ verdicts) each are = (
  record { expression = ap expression_of each.0.turn.info; notes = each.0.turn.noted; reads = each.0.turn.read; place = ap license_place each.0.turn.info; exceptions = each.0.turn.counted; kept = each.0.turn.kept },
  turns_told policy turns licenses last verdicts each.1 are.1,
)

module _ (given : CommandArguments) (policy : ValidConfig) where
  abbrev scanner : Scanner
  scanner = scanner_of_given given policy

  -- each report is on the crate of its licence
  pub reported_by : (files : List File) (crates : List ReadsOfCrate) (licenses : List KrateLicense) (last : List File) (verdicts : List Verdict) → AllZip (IsTurnBy last) (turns_at scanner policy files crates) licenses
      → AreVerdicts (policy_of policy) (gathered_of_licenses licenses) verdicts → AllZip (IsReportOf given policy) crates (reports_of licenses verdicts)
  reported_by files [] [] last verdicts each are = tt
  reported_by files [] (license ∷ licenses) last verdicts each are = absurd each
  reported_by files (one ∷ crates) [] last verdicts each are = absurd each
  reported_by files (one ∷ crates) (license ∷ licenses) last [] each are = absurd are
  reported_by files (one ∷ crates) (license ∷ licenses) last (verdict ∷ verdicts) each are =
      let turn = (turn_at scanner policy files one).turn in
      let own = each.0 in (
        record {
          id = ap (λ krate. krate.id) (sym own.krate);
          reads = sym own.recorded_are;
          expression = told_expression license.lic_info license.notes ∙ ap expression_in own.answer;
          source = told_source license.lic_info license.notes ∙ ap source_in own.answer;
          notes = told_notes turn license.lic_info license.notes own.turn.info own.turn.noted ∙ ap notes_of own.answer;
          verdict =
              subst (λ counted. IsVerdict (policy_of policy) one.krate counted (expression_of license.lic_info) verdict) own.turn.counted
              (subst (λ krate. IsVerdict (policy_of policy) krate license.exceptions (expression_of license.lic_info) verdict) (sym own.krate) are.0);
        },
        reported_by (files_behind turn) crates licenses last verdicts each.1 are.1,
      )
