-- The exit code of the checks that ran.
use Rattle.std.specs.Prelude.{ℕ, ◌+◌, ◌==◌, Bool, false, ℤ, pos, Option, Some, None, nat_lt, if◌then◌else◌}
use Rattle.std.specs.Option.{option_map_or}
use Rattle.diag_stats.specs.declared.stats.Stats.{Stats}
use Rattle.diag_stats.specs.declared.stats.AllStats.{AllStats}

-- a check ran, and one of its findings is an error
abbrev pub has_failed : Option Stats → Bool
has_failed stats = option_map_or (λ counted. nat_lt 0 counted.errors) stats false

-- the check of licences has errors
abbrev pub has_errors : AllStats → Bool
has_errors stats = has_failed stats.licenses

-- the number where the check failed
abbrev pub bit_of : Option Stats → ℕ → ℕ
bit_of stats bit = if has_failed stats then bit else 0

-- a bit for each check that failed: the first for advisories, then bans, licences and sources
abbrev pub exit_bits : AllStats → ℕ
exit_bits stats = bit_of stats.advisories 1 + bit_of stats.bans 2 + bit_of stats.licenses 4 + bit_of stats.sources 8

-- these bits; none where no check failed
abbrev pub exit_code_of : AllStats → Option ℤ
exit_code_of stats = if exit_bits stats == 0 then None else Some (pos (exit_bits stats))
