use Rattle.std.proofs.Common.{◌≡◌, drop, map}
use Rattle.clap.specs.Words.{app_of}
use Rattle.run_request.specs.OptionRow.{with_all, shape_of_row}
use Rattle.run_request.proofs.command.with_subcommands.Given as goal

-- the subcommands that are left lead to what all subcommands lead to
abbrev pub invariant-rows : goal.invariant-rows
invariant-rows l = with_all (map shape_of_row (drop l.row-index l.rows)) (app_of l.command) ≡ with_all (map shape_of_row l.rows) (app_of l.initial.command)
