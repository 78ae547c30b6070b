-- What is written of findings.
use Rattle.std.specs.Prelude.{◌≡◌, ℕ, List, All, [], Bool, false, nat_le, unwrap_or, if◌then◌else◌}
use Rattle.std.specs.List.{flat_map}
use Rattle.std.specs.Option.{option_map}
use Rattle.diag_core.specs.declared.severity.Severity.{Severity}
use Rattle.diag_core.specs.declared.severity.LevelFilter.{LevelFilter}
use Rattle.diag_core.specs.declared.diagnostic.Diagnostic.{Diagnostic}
use Rattle.diag_core.specs.declared.pack.Diag.{Diag}
use Rattle.diag_core.specs.File.{File}
use Rattle.diag_core.specs.Severity.{severity_rank, severity_of_filter}
use Rattle.diag_print.specs.declared.context.Format.{Format}
use Rattle.diag_print.specs.declared.context.Format.TheVariants.{Human, Json, Sarif}
use Rattle.diag_print.specs.declared.context.LogContext.{LogContext}
use Rattle.diag_print.specs.Human.{human_lines}
use Rattle.diag_print.specs.Json.{json_line}

-- the severity is at or above the level; none is at off
abbrev pub is_printed : LevelFilter → Severity → Bool
is_printed level severity =
    unwrap_or (option_map (λ least. nat_le (severity_rank least) (severity_rank severity)) (severity_of_filter level))
    false

-- the lines of a finding in a format
abbrev pub printed_of : Format → List File → Diagnostic → List ℕ
printed_of Human files diag = human_lines files diag
printed_of Json files diag = json_line files diag
printed_of Sarif files diag = []

-- the lines of a finding, where it is at or above the level
abbrev pub printed_at : LogContext → List File → Diagnostic → List ℕ
printed_at context files diag =
    if is_printed context.log_level diag.severity then printed_of context.format files diag else []

-- each finding is below the level
abbrev pub AllBelow : LevelFilter → List Diag → Type 0
AllBelow level findings = All (λ finding. is_printed level finding.diag.severity ≡ false) findings

-- the lines of the findings that are at or above the level, in order
abbrev pub all_printed_at : LogContext → List File → List Diag → List ℕ
all_printed_at context files findings = flat_map (λ finding. printed_at context files finding.diag) findings
