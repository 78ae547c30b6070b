-- What words say of codes and levels, and the levels of findings that they ask for.
use Rattle.std.specs.Prelude.{ℕ, Bool, false, List, [], ◌∷◌, ◌++◌, map, bytes_eq, Option, Some, None, unwrap_or}
use Rattle.std.specs.Prelude.{if◌then◌else◌}
use Rattle.diag_core.specs.Code.{code_name}
use Rattle.diag_core.specs.Severity.{is_same_severity}
use Rattle.diag_core.specs.declared.severity.Severity.{Severity}
use Rattle.diag_core.specs.declared.severity.Severity.TheVariants.{Note, Warning, Error}
use Rattle.run_request.specs.Names.{severity_of_level}
use Rattle.run_request.specs.declared.level.CodeOrLevel.{CodeOrLevel}
use Rattle.run_request.specs.declared.level.CodeOrLevel.TheVariants.{Code, Level}
use Rattle.run_request.specs.declared.level.LintLevels.{LintLevels}
use Rattle.run_overrides.specs.declared.items.LevelItem.{LevelItem}

abbrev pub set_to : Severity → CodeOrLevel → LevelItem
set_to severity subject = record { subject = subject; severity = severity }

-- In order, what the words allow, which is set to a note; what they warn of, to a warning; and what they deny, to an
-- error.
abbrev pub items_of : LintLevels → List LevelItem
items_of levels = map (set_to Note) levels.allow ++ map (set_to Warning) levels.warn ++ map (set_to Error) levels.deny

-- ---- which code, or which level

-- the code of that name
abbrev pub is_code : List ℕ → CodeOrLevel → Bool
is_code name (Code code) = bytes_eq name (code_name code)
is_code name (Level level) = false

-- the level whose findings have that severity
abbrev pub is_level : Severity → CodeOrLevel → Bool
is_level severity (Code code) = false
is_level severity (Level level) = is_same_severity (severity_of_level level) severity

-- the same code, or the same level; a code and a level are never the same
abbrev pub is_same : CodeOrLevel → CodeOrLevel → Bool
is_same (Code code) = is_code (code_name code)
is_same (Level level) = is_level (severity_of_level level)

-- ---- the level of a finding

-- what the first of the items that pass the test is set to
abbrev pub asked_of : (CodeOrLevel → Bool) → List LevelItem → Option Severity
asked_of test [] = None
asked_of test (item ∷ items) = if test item.subject then Some item.severity else asked_of test items

-- what the code is set to, or else this severity
abbrev pub by_code : List LevelItem → List ℕ → Severity → Severity
by_code items code severity = unwrap_or (asked_of (is_code code) items) severity

-- what the level of this severity is set to, or else the severity itself
abbrev pub by_level : List LevelItem → Severity → Severity
by_level items severity = unwrap_or (asked_of (is_level severity) items) severity

-- The level that words ask for, of a finding with a code: what the code is set to, or else the finding's own severity;
-- and then, once, what the level that this is is set to.
abbrev pub level_asked : LintLevels → List ℕ → Severity → Severity
level_asked levels code severity = by_level (items_of levels) (by_code (items_of levels) code severity)
