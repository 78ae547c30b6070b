-- How findings are counted.
use Rattle.std.specs.Prelude.{ℕ, ◌-◌, ◌^◌, List, Some, None, count_by, min}
use Rattle.std.specs.List.{sum_by}
use Rattle.diag_core.specs.Pack.{PackOf}
use Rattle.diag_core.specs.Severity.{is_same_severity}
use Rattle.diag_core.specs.declared.severity.Severity.{Severity}
use Rattle.diag_core.specs.declared.severity.Severity.TheVariants as severity
use Rattle.diag_stats.specs.declared.stats.Stats.{Stats}
use Rattle.diag_stats.specs.declared.stats.AllStats.{AllStats}

-- how many findings of a pack are of this severity
abbrev pub count_in : Severity → PackOf → ℕ
count_in severity pack = count_by (λ finding. is_same_severity finding.diag.severity severity) pack.findings

-- and of all packs: so many, or as many as 64 bits tell
abbrev pub count_at : List PackOf → Severity → ℕ
count_at packs severity = min (sum_by (count_in severity) packs) (2 ^ 64 - 1)

abbrev pub stats_of : List PackOf → Stats
stats_of packs = record {
  errors = count_at packs severity.Error;
  warnings = count_at packs severity.Warning;
  notes = count_at packs severity.Note;
  helps = count_at packs severity.Help;
}

-- the check of licences alone is counted
abbrev pub counts_of : List PackOf → AllStats
counts_of packs = record { advisories = None; bans = None; licenses = Some (stats_of packs); sources = None }
