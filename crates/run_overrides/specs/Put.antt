-- One code or level more.
use Rattle.std.specs.Prelude.{◌≡◌, ℕ, List, [], ◌∷◌, ◌++◌, Option, Some, None, if◌then◌else◌, ⊤}
use Rattle.std.specs.FinMap.{get, insert}
use Rattle.diag_core.specs.Code.{code_name}
use Rattle.diag_core.specs.Severity.{is_same_severity}
use Rattle.diag_core.specs.declared.overrides.DiagnosticOverrides.{DiagnosticOverrides}
use Rattle.diag_core.specs.declared.overrides.LevelPair.{LevelPair}
use Rattle.diag_core.specs.declared.severity.Severity.{Severity}
use Rattle.run_request.specs.Names.{severity_of_level}
use Rattle.run_request.specs.declared.level.CodeOrLevel.{CodeOrLevel}
use Rattle.run_request.specs.declared.level.CodeOrLevel.TheVariants.{Code, Level}
use Rattle.run_request.specs.declared.level.Level as levels
use Rattle.run_overrides.specs.declared.error.OverrideError.{OverrideError}
use Rattle.run_overrides.specs.declared.error.OverrideError.TheVariants.{Memory, OverrideTwice}
use Rattle.run_overrides.specs.declared.items.LevelItem.{LevelItem}
use Rattle.run_overrides.specs.Items.{asked_of, is_code, is_level}
use Rattle.run_overrides.specs.Overrides.{StandOnce}

abbrev pub pair_of : levels.Level → Severity → LevelPair
pair_of level output = record { input = severity_of_level level; output = output }

-- the output of the first pair with that input
abbrev pub output_of : List LevelPair → Severity → Option Severity
output_of [] input = None
output_of (pair ∷ pairs) input = if is_same_severity pair.input input then Some pair.output else output_of pairs input

-- what a code or a level is set to so far
abbrev pub set_before : DiagnosticOverrides → CodeOrLevel → Option Severity
set_before overrides (Code code) = get overrides.code_overrides (code_name code)
set_before overrides (Level level) = output_of overrides.level_overrides (severity_of_level level)

-- the overrides with one more
abbrev pub with_subject : DiagnosticOverrides → CodeOrLevel → Severity → DiagnosticOverrides
with_subject overrides (Code code) severity =
    record overrides { code_overrides = insert overrides.code_overrides (code_name code) severity }
with_subject overrides (Level level) severity =
    record overrides { level_overrides = overrides.level_overrides ++ pair_of level severity ∷ [] }

abbrev pub with_item : DiagnosticOverrides → LevelItem → DiagnosticOverrides
with_item overrides item = with_subject overrides item.subject item.severity

-- a refusal tells this name and these severities, or it comes for want of memory
abbrev pub IsAgain : Severity → List ℕ → Severity → OverrideError → Type 0
IsAgain before name severity Memory = ⊤
IsAgain before name severity (OverrideTwice told first second) = (first ≡ before) × (told ≡ name) × (second ≡ severity)

-- the same, where it was set before
abbrev pub IsTold : Option Severity → List ℕ → Severity → OverrideError → Type 0
IsTold before name severity Memory = ⊤
IsTold before name severity (OverrideTwice told first second) =
    (before ≡ Some first) × (told ≡ name) × (second ≡ severity)

-- the codes and levels of these items are set to what they say, and nothing else is set
pub record AreSet (items : List LevelItem) (overrides : DiagnosticOverrides) : Type 0 where
  pub codes : (name : List ℕ) → get overrides.code_overrides name ≡ asked_of (is_code name) items
  pub levels : (severity : Severity) → output_of overrides.level_overrides severity ≡ asked_of (is_level severity) items
  pub once : StandOnce overrides
