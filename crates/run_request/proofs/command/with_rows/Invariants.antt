use Rattle.std.proofs.Common.{◌≡◌, drop, map}
use Rattle.clap.specs.Words.{app_of}
use Rattle.run_request.specs.OptionRow.{app_with_rules, rule_of_row}
use Rattle.run_request.proofs.command.with_rows.Given as goal

-- the rows that are left lead to what all rows lead to
abbrev pub invariant-rows : goal.invariant-rows
invariant-rows l = app_with_rules (map rule_of_row (drop l.row-index l.rows)) (app_of l.command) ≡ app_with_rules (map rule_of_row l.rows) (app_of l.initial.command)
