-- Levels that words ask for, and what is there twice, worked out by hand.
use Rattle.std.proofs.Common.{◌≡◌, List, [], ◌∷◌, codes, Some, None, refl}
use Rattle.diag_core.specs.declared.code.DiagnosticCode.TheVariants.{License}
use Rattle.diag_core.specs.declared.licenses.Code.TheVariants as license
use Rattle.diag_core.specs.declared.severity.Severity.TheVariants.{Note, Warning, Error}
use Rattle.run_request.specs.declared.level.CodeOrLevel.{CodeOrLevel}
use Rattle.run_request.specs.declared.level.CodeOrLevel.TheVariants.{Code, Level}
use Rattle.run_request.specs.declared.level.Level.TheVariants.{Allowed, Warnings, Denied}
use Rattle.run_request.specs.declared.level.LintLevels.{LintLevels}
use Rattle.run_overrides.specs.Items.{level_asked}
use Rattle.run_overrides.specs.Twice.{first_twice}

abbrev accepted : CodeOrLevel
accepted = Code (License license.Accepted)

abbrev rejected : CodeOrLevel
rejected = Code (License license.Rejected)

-- what is allowed, warned of and denied
abbrev words : List CodeOrLevel → List CodeOrLevel → List CodeOrLevel → LintLevels
words allow warn deny = record { allow = allow; warn = warn; deny = deny }

-- ---- the level of a finding

-- -W accepted -D warnings: the level of the code, and then once that of this level
code_then_level : level_asked (words [] (accepted ∷ []) (Level Warnings ∷ [])) (codes "accepted") Note ≡ Error
code_then_level = refl

-- -W denied -D warnings: an error is a warning, and stays one; a warning is an error
level_once : level_asked (words [] (Level Denied ∷ []) (Level Warnings ∷ [])) (codes "rejected") Error ≡ Warning
level_once = refl

other_way : level_asked (words [] (Level Denied ∷ []) (Level Warnings ∷ [])) (codes "license-not-encountered") Warning ≡ Error
other_way = refl

-- -A rejected -D allowed: a note by its code is an error by its level
back_again : level_asked (words (rejected ∷ []) [] (Level Allowed ∷ [])) (codes "rejected") Error ≡ Error
back_again = refl

-- another code keeps its level
another_code : level_asked (words (rejected ∷ []) [] (Level Allowed ∷ [])) (codes "license-not-encountered") Warning ≡ Warning
another_code = refl

-- ---- what is there twice

-- -W rejected -A rejected: what is allowed comes first
twice_code : first_twice (words (rejected ∷ []) (rejected ∷ []) []) ≡ Some (record { name = codes "rejected"; first = Note; second = Warning })
twice_code = refl

twice_level : first_twice (words (Level Warnings ∷ []) [] (Level Warnings ∷ [])) ≡ Some (record { name = codes "warnings"; first = Note; second = Error })
twice_level = refl

-- -A rejected -A accepted -D accepted -D rejected: the first that comes again
first_again : first_twice (words (rejected ∷ accepted ∷ []) [] (accepted ∷ rejected ∷ []))
    ≡ Some (record { name = codes "accepted"; first = Note; second = Error })
first_again = refl

-- also where both set it to the same
twice_the_same : first_twice (words (rejected ∷ rejected ∷ []) [] []) ≡ Some (record { name = codes "rejected"; first = Note; second = Note })
twice_the_same = refl

-- a level and a code are never the same
other_kinds : first_twice (words (Level Warnings ∷ []) (accepted ∷ []) []) ≡ None
other_kinds = refl
