-- Findings at the levels that words ask for.
use Rattle.std.proofs.Common.{◌≡◌, ◌∙◌, refl, ap, ap₂, ℕ, List, [], ◌∷◌, ◌++◌, map, Option, None, Some}
use Rattle.diag_core.specs.Overrides.{level_by_code, finding_at_level, pack_overridden}
use Rattle.diag_core.specs.Pack.{PackOf}
use Rattle.diag_core.specs.declared.overrides.DiagnosticOverrides.{DiagnosticOverrides}
use Rattle.diag_core.specs.declared.pack.Diag.{Diag}
use Rattle.diag_core.specs.declared.severity.Severity.{Severity}
use Rattle.diag_core.specs.declared.severity.Severity.TheVariants.{Note, Warning, Error}
use Rattle.run_request.specs.declared.level.LintLevels.{LintLevels}
use Rattle.run_overrides.specs.Items.{by_code, by_level, items_of, set_to}
use Rattle.run_overrides.specs.Levels.{HasNoOverrides, at_level, level_in, packs_at}
use Rattle.run_overrides.specs.Overrides.{AreAsked}

-- ---- overrides that are as words ask for

module _ (levels : LintLevels) (overrides : DiagnosticOverrides) (asked : AreAsked levels overrides) where
  level_same : (code : Option (List ℕ)) (severity : Severity) → level_by_code overrides code severity ≡ level_in levels code severity
  level_same None severity = refl
  level_same (Some code) severity = asked code severity

  finding_same : (finding : Diag) → finding_at_level overrides finding ≡ at_level levels finding
  finding_same finding =
      ap (λ severity. let it : Diag = record finding { diag = record finding.diag { severity = severity } } in it) (level_same finding.diag.code finding.diag.severity)

  findings_same : (findings : List Diag) → map (finding_at_level overrides) findings ≡ map (at_level levels) findings
  findings_same [] = refl
  findings_same (finding ∷ findings) = ap₂ (λ first rest. first ∷ rest) (finding_same finding) (findings_same findings)

  pub packs_same : (packs : List PackOf) → map (pack_overridden (Some overrides)) packs ≡ packs_at levels packs
  packs_same [] = refl
  packs_same (pack ∷ packs) =
      ap₂ (λ first rest. first ∷ rest) (ap (λ findings. let it : PackOf = record pack { findings = findings } in it) (findings_same pack.findings)) (packs_same packs)

-- ---- without overrides

module _ (levels : LintLevels) (none : HasNoOverrides levels) where
  no_items : items_of levels ≡ []
  no_items =
      ap (λ allow. map (set_to Note) allow ++ map (set_to Warning) levels.warn ++ map (set_to Error) levels.deny) none.allow
      ∙ (ap (λ warn. map (set_to Warning) warn ++ map (set_to Error) levels.deny) none.warn
      ∙ ap (map (set_to Error)) none.deny)

  own_level : (code : Option (List ℕ)) (severity : Severity) → level_in levels code severity ≡ severity
  own_level None severity = refl
  own_level (Some code) severity = ap (λ items. by_level items (by_code items code severity)) no_items

  finding_kept : (finding : Diag) → at_level levels finding ≡ finding
  finding_kept finding =
      ap (λ severity. let it : Diag = record finding { diag = record finding.diag { severity = severity } } in it) (own_level finding.diag.code finding.diag.severity)

  findings_kept : (findings : List Diag) → map (at_level levels) findings ≡ findings
  findings_kept [] = refl
  findings_kept (finding ∷ findings) = ap₂ (λ first rest. first ∷ rest) (finding_kept finding) (findings_kept findings)

  pub packs_kept : (packs : List PackOf) → packs_at levels packs ≡ packs
  packs_kept [] = refl
  packs_kept (pack ∷ packs) =
      ap₂ (λ first rest. first ∷ rest) (ap (λ findings. let it : PackOf = record pack { findings = findings } in it) (findings_kept pack.findings)) (packs_kept packs)
