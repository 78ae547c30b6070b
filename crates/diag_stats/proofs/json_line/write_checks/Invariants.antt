use Rattle.std.proofs.Common.{take}
use Rattle.std.specs.List.{flat_map}
use Rattle.diag_print.specs.JsonTokens.{Adds}
use Rattle.diag_stats.specs.Json.{check_tokens}
use Rattle.diag_stats.proofs.json_line.write_checks.Given as goal

-- the checks so far were written
abbrev pub invariant-checks : goal.invariant-checks
invariant-checks l = Adds l.initial.out l.out (flat_map check_tokens (take l.check-index l.checks))
