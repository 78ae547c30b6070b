-- The summary for a person.
use Rattle.std.specs.Prelude.{ℕ, ◌+◌, ◌-◌, max, Bool, true, false, List, [], ◌∷◌, ◌++◌, codes, decimal, length}
use Rattle.std.specs.Prelude.{replicate}
use Rattle.std.specs.List.{flat_map}
use Rattle.diag_core.specs.declared.severity.LevelFilter.{LevelFilter}
use Rattle.diag_core.specs.declared.severity.LevelFilter.TheVariants.{Off, Error, Warn, Info, Debug, Trace}
use Rattle.diag_stats.specs.declared.checks.CheckStats.{CheckStats}
use Rattle.diag_stats.specs.declared.stats.Stats.{Stats}
use Rattle.diag_stats.specs.Checks.{status_text}

-- ---- the short form: one line

abbrev pub behind_comma : CheckStats → List ℕ
behind_comma one = codes ", " ++ status_text one

-- how each check went, with commas between
abbrev pub joined_checks : List CheckStats → List ℕ
joined_checks [] = []
joined_checks (first ∷ others) = status_text first ++ flat_map behind_comma others

abbrev pub short_text : List CheckStats → List ℕ
short_text checks = joined_checks checks ++ codes "\n"

-- ---- the full form: a line for each check

abbrev pub space : ℕ
space = 32

-- how long the longest text is of a check and how it went
abbrev pub widest_check : List CheckStats → ℕ
widest_check [] = 0
widest_check (one ∷ checks) = max (length (status_text one)) (widest_check checks)

-- the numbers of findings; notes and helps are one number
abbrev pub counts_text : Stats → List ℕ
counts_text stats =
    codes ": " ++ decimal stats.errors ++ codes " errors, " ++ decimal stats.warnings ++ codes " warnings, "
    ++ decimal (stats.notes + stats.helps) ++ codes " notes\n"

-- a check and how it went, up to a column, and its numbers
abbrev pub full_line : ℕ → CheckStats → List ℕ
full_line column one = replicate (column - length (status_text one)) space ++ status_text one ++ counts_text one.stats

-- the column is one behind the longest text
abbrev pub full_text : List CheckStats → List ℕ
full_text checks = flat_map (full_line (widest_check checks + 1)) checks

-- ---- which of the two

-- the full form where it is asked for, or at a level below warnings; at off nothing
abbrev pub human_text : LevelFilter → Bool → List CheckStats → List ℕ
human_text level true checks = full_text checks
human_text Off false checks = []
human_text Error false checks = short_text checks
human_text Warn false checks = short_text checks
human_text Info false checks = full_text checks
human_text Debug false checks = full_text checks
human_text Trace false checks = full_text checks
