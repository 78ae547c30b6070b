-- Overrides that are as words ask for, and why there are none.
use Rattle.std.specs.Prelude.{◌≡◌, ℕ, T, false, List, Option, Some, AllPairs, ⊤}
use Rattle.std.specs.Cmp.Lexicographic.{slice_cmp}
use Rattle.std.specs.FinMap.{entries, is_sorted}
use Rattle.std.specs.Ordering.{nat_cmp}
use Rattle.diag_core.specs.Overrides.{level_of}
use Rattle.diag_core.specs.Severity.{is_same_severity}
use Rattle.diag_core.specs.declared.overrides.DiagnosticOverrides.{DiagnosticOverrides}
use Rattle.diag_core.specs.declared.overrides.LevelPair.{LevelPair}
use Rattle.diag_core.specs.declared.severity.Severity.{Severity}
use Rattle.run_request.specs.declared.level.LintLevels.{LintLevels}
use Rattle.run_overrides.specs.declared.error.OverrideError.{OverrideError}
use Rattle.run_overrides.specs.declared.error.OverrideError.TheVariants.{Memory, OverrideTwice}
use Rattle.run_overrides.specs.Items.{level_asked}
use Rattle.run_overrides.specs.Twice.{Twice}

-- each finding with a code comes out at the level that the words ask for
abbrev pub AreAsked : LintLevels → DiagnosticOverrides → Type 0
AreAsked levels overrides =
    (code : List ℕ) (severity : Severity) → level_of overrides code severity ≡ level_asked levels code severity

abbrev pub HaveOtherInputs : LevelPair → LevelPair → Type 0
HaveOtherInputs one other = is_same_severity one.input other.input ≡ false

-- Each code and each input level is at most once: the codes' names rise, and no two pairs have the same input.
pub record StandOnce (overrides : DiagnosticOverrides) : Type 0 where
  pub codes : T (is_sorted (slice_cmp nat_cmp) (entries overrides.code_overrides))
  pub levels : AllPairs HaveOtherInputs overrides.level_overrides

-- a refusal tells the first that is there twice, or it comes for want of memory
abbrev pub IsFirstTold : Option Twice → OverrideError → Type 0
IsFirstTold twice Memory = ⊤
IsFirstTold twice (OverrideTwice name first second) =
    twice ≡ Some (record { name = name; first = first; second = second })
