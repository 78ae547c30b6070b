-- Summaries without numbers and exit codes, worked out by hand.
use Rattle.std.proofs.Common.{◌≡◌, ℕ, List, [], ◌∷◌, Option, Some, None, codes, pos, false, true, refl}
use Rattle.tree_core.specs.Script.{to_out}
use Rattle.diag_core.specs.declared.severity.LevelFilter.TheVariants.{Off, Warn, Info}
use Rattle.diag_print.specs.declared.context.Format.TheVariants.{Human, Sarif}
use Rattle.diag_stats.specs.declared.stats.AllStats.{AllStats}
use Rattle.diag_stats.specs.declared.stats.Stats.{Stats}
use Rattle.diag_stats.specs.ExitCode.{exit_code_of}
use Rattle.diag_stats.specs.Summary.{summary_of}

abbrev counted : ℕ → ℕ → ℕ → ℕ → Stats
counted errors warnings notes helps = record { errors = errors; warnings = warnings; notes = notes; helps = helps }

-- the checks of advisories and of licences
abbrev two : Option Stats → Option Stats → AllStats
two advisories licenses = record { advisories = advisories; bans = None; licenses = licenses; sources = None }

short : summary_of Human Warn false (two (Some (counted 0 0 0 0)) (Some (counted 1 0 0 0))) ≡ (to_out, codes "advisories ok, licenses FAILED\n") ∷ []
short = refl

nothing_at_off : summary_of Human Off false (two None (Some (counted 0 0 1 0))) ≡ []
nothing_at_off = refl

of_no_check : summary_of Human Warn false (two None None) ≡ (to_out, codes "\n") ∷ []
of_no_check = refl

of_no_check_in_full : summary_of Human Warn true (two None None) ≡ []
of_no_check_in_full = refl

as_sarif : summary_of Sarif Info true (two None (Some (counted 1 0 0 0))) ≡ []
as_sarif = refl

no_code : exit_code_of (two (Some (counted 0 1 0 0)) (Some (counted 0 0 0 0))) ≡ None
no_code = refl

code_of_both : exit_code_of (two (Some (counted 1 0 0 0)) (Some (counted 2 0 0 0))) ≡ Some (pos 5)
code_of_both = refl
