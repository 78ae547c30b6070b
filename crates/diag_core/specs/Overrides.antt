-- The level of a finding after overrides.
use Rattle.std.specs.Prelude.{ℕ, List, [], ◌∷◌, map, unwrap_or, Option, Some, None, if◌then◌else◌}
use Rattle.std.specs.FinMap.{get}
use Rattle.diag_core.specs.declared.severity.Severity.{Severity}
use Rattle.diag_core.specs.declared.pack.Diag.{Diag}
use Rattle.diag_core.specs.declared.overrides.LevelPair.{LevelPair}
use Rattle.diag_core.specs.declared.overrides.DiagnosticOverrides.{DiagnosticOverrides}
use Rattle.diag_core.specs.Severity.{is_same_severity}
use Rattle.diag_core.specs.Pack.{PackOf}

-- the output of the first pair whose input is that level; the level where there is none
abbrev pub first_output_of : List LevelPair → Severity → Severity
first_output_of [] severity = severity
first_output_of (pair ∷ pairs) severity =
    if is_same_severity pair.input severity then pair.output else first_output_of pairs severity

-- the override of the code or else the own level, and then the output of the first level pair whose input is that
abbrev pub level_of : DiagnosticOverrides → List ℕ → Severity → Severity
level_of overrides code severity =
    first_output_of overrides.level_overrides (unwrap_or (get overrides.code_overrides code) severity)

-- the own level, or what the overrides make of it where the finding has a code
abbrev pub level_by_code : DiagnosticOverrides → Option (List ℕ) → Severity → Severity
level_by_code overrides None severity = severity
level_by_code overrides (Some code) severity = level_of overrides code severity

-- the finding at its level after overrides
abbrev pub finding_at_level : DiagnosticOverrides → Diag → Diag
finding_at_level overrides finding = record finding {
  diag = record finding.diag { severity = level_by_code overrides finding.diag.code finding.diag.severity };
}

-- the pack with each finding at its level after overrides, where there are any
abbrev pub pack_overridden : Option DiagnosticOverrides → PackOf → PackOf
pack_overridden None pack = pack
pack_overridden (Some overrides) pack = record pack { findings = map (finding_at_level overrides) pack.findings }
