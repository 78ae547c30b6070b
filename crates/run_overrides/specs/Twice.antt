-- What is there twice in what words say of codes and levels.
use Rattle.std.specs.Prelude.{ℕ, List, [], ◌∷◌, ◌++◌, codes, Option, None, option_map}
use Rattle.std.specs.Option.{option_or}
use Rattle.diag_core.specs.Code.{code_name}
use Rattle.diag_core.specs.declared.severity.Severity.{Severity}
use Rattle.run_request.specs.declared.level.CodeOrLevel.{CodeOrLevel}
use Rattle.run_request.specs.declared.level.CodeOrLevel.TheVariants as subject
use Rattle.run_request.specs.declared.level.Level.{Level}
use Rattle.run_request.specs.declared.level.Level.TheVariants.{Allowed, Warnings, Denied}
use Rattle.run_request.specs.declared.level.LintLevels.{LintLevels}
use Rattle.run_overrides.specs.declared.items.LevelItem.{LevelItem}
use Rattle.run_overrides.specs.Items.{asked_of, is_same, items_of}

-- the name of a level
abbrev pub level_name : Level → List ℕ
level_name Allowed = codes "allowed"
level_name Warnings = codes "warnings"
level_name Denied = codes "denied"

-- the name of a code or a level
abbrev pub name_of : CodeOrLevel → List ℕ
name_of (subject.Code code) = code_name code
name_of (subject.Level level) = level_name level

-- what is there twice, by its name, and what it is set to first and then
pub record Twice : Type 0 where
  pub name : List ℕ
  pub first : Severity
  pub second : Severity

-- the code or level of an item, which stood before and was set to this
abbrev pub twice_of : LevelItem → Severity → Twice
twice_of item first = record { name = name_of item.subject; first = first; second = item.severity }

-- of some items the first whose code or level stood before: among the earlier ones, or further up
abbrev pub twice_behind : List LevelItem → List LevelItem → Option Twice
twice_behind earlier [] = None
twice_behind earlier (item ∷ items) =
    option_or (option_map (twice_of item) (asked_of (is_same item.subject) earlier))
    (twice_behind (earlier ++ item ∷ []) items)

-- the first code or level that is there twice
abbrev pub first_twice : LintLevels → Option Twice
first_twice levels = twice_behind [] (items_of levels)
