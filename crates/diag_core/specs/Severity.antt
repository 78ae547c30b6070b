-- What the levels of printing say of findings.
use Rattle.std.specs.Prelude.{ℕ, ◌==◌, Bool, Option, Some, None}
use Rattle.diag_core.specs.declared.severity.Severity.{Severity}
use Rattle.diag_core.specs.declared.severity.Severity.TheVariants as severity
use Rattle.diag_core.specs.declared.severity.LevelFilter.{LevelFilter}
use Rattle.diag_core.specs.declared.severity.LevelFilter.TheVariants as filter

-- the least severity that is printed; none at off
abbrev pub severity_of_filter : LevelFilter → Option Severity
severity_of_filter filter.Off = None
severity_of_filter filter.Error = Some severity.Error
severity_of_filter filter.Warn = Some severity.Warning
severity_of_filter filter.Info = Some severity.Note
severity_of_filter filter.Debug = Some severity.Help
severity_of_filter filter.Trace = Some severity.Help

-- the place among the levels, from the mildest
abbrev pub severity_rank : Severity → ℕ
severity_rank severity.Help = 0
severity_rank severity.Note = 1
severity_rank severity.Warning = 2
severity_rank severity.Error = 3
severity_rank severity.Bug = 4

-- the two are one level
abbrev pub is_same_severity : Severity → Severity → Bool
is_same_severity one other = severity_rank one == severity_rank other
