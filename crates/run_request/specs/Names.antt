-- The names of levels, formats, colours, checks and layouts, each table in the order in which help lists it.
use Rattle.std.specs.Prelude.{ℕ, List, [], ◌∷◌, Option, codes, option_map}
use Rattle.std.specs.Option.{option_or}
use Rattle.diag_core.specs.declared.severity.LevelFilter.{LevelFilter}
use Rattle.diag_core.specs.declared.severity.LevelFilter.TheVariants as filter
use Rattle.diag_core.specs.declared.severity.Severity.{Severity}
use Rattle.diag_core.specs.declared.severity.Severity.TheVariants as severity
use Rattle.diag_core.specs.Code.{code_named}
use Rattle.diag_print.specs.declared.context.Format.{Format}
use Rattle.diag_print.specs.declared.context.Format.TheVariants as format
use Rattle.diag_print.specs.declared.context.Color.{Color}
use Rattle.diag_print.specs.declared.context.Color.TheVariants as color
use Rattle.run_request.specs.declared.level.WhichCheck.{WhichCheck}
use Rattle.run_request.specs.declared.level.WhichCheck.TheVariants as which
use Rattle.run_request.specs.declared.level.Level.{Level}
use Rattle.run_request.specs.declared.level.Level.TheVariants as level
use Rattle.run_request.specs.declared.level.CodeOrLevel.{CodeOrLevel}
use Rattle.run_request.specs.declared.level.CodeOrLevel.TheVariants as either
use Rattle.run_request.specs.declared.output.OutputFormat.{OutputFormat}
use Rattle.run_request.specs.declared.output.OutputFormat.TheVariants as output
use Rattle.run_request.specs.declared.output.Layout.{Layout}
use Rattle.run_request.specs.declared.output.Layout.TheVariants as layout
use Rattle.run_request.specs.Named.{named_in}

-- names, each with its value
abbrev pub NameTable : Type 0 → Type 0
NameTable T = List (List ℕ × T)

abbrev pub filter_names : NameTable LevelFilter
filter_names =
    (codes "off", filter.Off) ∷ (codes "error", filter.Error) ∷ (codes "warn", filter.Warn)
    ∷ (codes "info", filter.Info) ∷ (codes "debug", filter.Debug) ∷ (codes "trace", filter.Trace) ∷ []

abbrev pub format_names : NameTable Format
format_names = (codes "human", format.Human) ∷ (codes "json", format.Json) ∷ (codes "sarif", format.Sarif) ∷ []

abbrev pub color_names : NameTable Color
color_names = (codes "auto", color.Auto) ∷ (codes "always", color.Always) ∷ (codes "never", color.Never) ∷ []

abbrev pub which_names : NameTable WhichCheck
which_names =
    (codes "advisories", which.Advisories) ∷ (codes "bans", which.Bans) ∷ (codes "licenses", which.Licenses)
    ∷ (codes "sources", which.Sources) ∷ (codes "all", which.All) ∷ []

abbrev pub level_names : NameTable Level
level_names =
    (codes "allowed", level.Allowed) ∷ (codes "warnings", level.Warnings) ∷ (codes "denied", level.Denied) ∷ []

abbrev pub output_names : NameTable OutputFormat
output_names = (codes "human", output.Human) ∷ (codes "json", output.Json) ∷ (codes "tsv", output.Tsv) ∷ []

abbrev pub layout_names : NameTable Layout
layout_names = (codes "crate", layout.Crate) ∷ (codes "license", layout.License) ∷ []

-- the level of that name, or else the code of that name; a code's name is alone, without the letter of its check
abbrev pub code_or_level_named : List ℕ → Option CodeOrLevel
code_or_level_named word =
    option_or (option_map either.Level (named_in level_names word)) (option_map either.Code (code_named word))

-- what is allowed is a note, what is warned of a warning, and what is denied an error
abbrev pub severity_of_level : Level → Severity
severity_of_level level.Allowed = severity.Note
severity_of_level level.Warnings = severity.Warning
severity_of_level level.Denied = severity.Error
