-- The checks that ran, and how they went.
use Rattle.std.specs.Prelude.{ℕ, List, [], ◌∷◌, ◌++◌, codes, Option, Some, None, nat_lt, if◌then◌else◌}
use Rattle.diag_core.specs.declared.pack.Check.{Check}
use Rattle.diag_core.specs.declared.pack.Check.TheVariants.{Advisories, Bans, Licenses, Sources}
use Rattle.diag_stats.specs.declared.checks.CheckStats.{CheckStats}
use Rattle.diag_stats.specs.declared.stats.Stats.{Stats}
use Rattle.diag_stats.specs.declared.stats.AllStats.{AllStats}

-- the name of a check
abbrev pub check_word : Check → List ℕ
check_word Advisories = codes "advisories"
check_word Bans = codes "bans"
check_word Licenses = codes "licenses"
check_word Sources = codes "sources"

-- how a check went: it failed where one of its findings is an error
abbrev pub status_word : Stats → List ℕ
status_word stats = if nat_lt 0 stats.errors then codes "FAILED" else codes "ok"

-- the name of a check, and how it went
abbrev pub status_text : CheckStats → List ℕ
status_text one = check_word one.check ++ codes " " ++ status_word one.stats

-- a check, where it ran
abbrev pub stats_where_run : Check → Option Stats → List CheckStats
stats_where_run check None = []
stats_where_run check (Some stats) = record { check = check; stats = stats } ∷ []

-- the checks that ran, in the order of their names
abbrev pub checks_of : AllStats → List CheckStats
checks_of stats =
    stats_where_run Advisories stats.advisories ++ stats_where_run Bans stats.bans
    ++ stats_where_run Licenses stats.licenses ++ stats_where_run Sources stats.sources
