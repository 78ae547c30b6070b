-- That `why` tells the verdicts of the check.
use Rattle.std.specs.Prelude.{◌≡◌, ℕ, List, None}
use Rattle.spdx_terms.specs.catalog.Catalog.{CatalogLists}
use Rattle.spdx_terms.specs.declared.catalog.identifier.Match.{Match}
use Rattle.diag_print.specs.declared.context.LogContext.{LogContext}
use Rattle.run_request.specs.declared.context.KrateContext.{KrateContext}
use Rattle.run_request.specs.declared.level.LintLevels.{LintLevels}
use Rattle.run_found.specs.Hearing.{RequestHearing}
use Rattle.run_command.specs.Given.{command_arguments_of}
use Rattle.run_check.specs.declared.report.Report.{Report}
use Rattle.run_check.specs.Given.{report_options}
use Rattle.run_check.specs.Report.{IsReport, verdicts_in}
use Rattle.run_why.specs.Given.{why_options}

-- Over equal answers the report by which `why` tells of crates has the verdicts that the check reports, whatever levels
-- that is asked for.
abbrev pub TellsVerdictsOfCheck : Type 0
TellsVerdictsOfCheck =
    (lists : CatalogLists) (match_of : List ℕ → Match) (log : LogContext) (context : KrateContext)
    (words : List (List ℕ)) (levels : LintLevels) (hearing : RequestHearing) (why check : Report)
    → IsReport (command_arguments_of lists match_of log context (why_options log context words)) hearing why
    → IsReport (command_arguments_of lists match_of log context (report_options levels None)) hearing check
    → verdicts_in why ≡ verdicts_in check
