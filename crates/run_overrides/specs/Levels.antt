-- Findings at the levels that words ask for.
use Rattle.std.specs.Prelude.{◌≡◌, ℕ, List, [], map, Option, Some, None}
use Rattle.diag_core.specs.Overrides.{pack_overridden}
use Rattle.diag_core.specs.Pack.{PackOf}
use Rattle.diag_core.specs.declared.overrides.DiagnosticOverrides.{DiagnosticOverrides}
use Rattle.diag_core.specs.declared.pack.Diag.{Diag}
use Rattle.diag_core.specs.declared.severity.Severity.{Severity}
use Rattle.run_request.specs.declared.level.LintLevels.{LintLevels}
use Rattle.run_overrides.specs.Items.{level_asked}

-- the level that is asked for, of a finding with a code; without one its own
abbrev pub level_in : LintLevels → Option (List ℕ) → Severity → Severity
level_in levels None severity = severity
level_in levels (Some code) severity = level_asked levels code severity

abbrev pub at_level : LintLevels → Diag → Diag
at_level levels finding =
    record finding { diag = record finding.diag { severity = level_in levels finding.diag.code finding.diag.severity } }

abbrev pub pack_at : LintLevels → PackOf → PackOf
pack_at levels pack = record pack { findings = map (at_level levels) pack.findings }

abbrev pub packs_at : LintLevels → List PackOf → List PackOf
packs_at levels packs = map (pack_at levels) packs

-- the overrides put each finding of each pack at the level that is asked for
abbrev pub PutAtLevels : LintLevels → DiagnosticOverrides → Type 0
PutAtLevels levels overrides =
    (packs : List PackOf) → map (pack_overridden (Some overrides)) packs ≡ packs_at levels packs

-- nothing is allowed, warned of or denied
pub record HasNoOverrides (levels : LintLevels) : Type 0 where
  pub warn : levels.warn ≡ []
  pub allow : levels.allow ≡ []
  pub deny : levels.deny ≡ []

-- then each finding keeps its level
abbrev pub ChangeNothing : LintLevels → Type 0
ChangeNothing levels = HasNoOverrides levels → (packs : List PackOf) → packs_at levels packs ≡ packs
