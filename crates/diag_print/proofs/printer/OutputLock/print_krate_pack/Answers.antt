use Rattle.std.proofs.Common.{◌++◌, ap₂, ◌∙◌}
use Rattle.diag_print.proofs.PrintedLemmas.{nothing_below, nothing_in_sarif, gained_none}
use Rattle.diag_print.proofs.printer.OutputLock.print_krate_pack.Goals as goal

pub returns-in_err-push_pack_text-clause-err : goal.returns-in_err-push_pack_text-clause-err
returns-in_err-push_pack_text-clause-err g c = gained_none c.from_residual.result _ _

pub returns-clause-below : goal.returns-clause-below
returns-clause-below g c = λ below. c.write.ensures.nothing (
    c.as_str.ensures.value
    ∙ c.in_ok-push_pack_text.ensures.ok
    ∙ ap₂ ◌++◌ c.new-text.ensures.bytes (nothing_below c.args.self.now.printer.now c.args.files.now c.args.pack.now.findings below)
    )

pub returns-clause-sarif : goal.returns-clause-sarif
returns-clause-sarif g c = λ sarif. c.write.ensures.nothing (
    c.as_str.ensures.value
    ∙ c.in_ok-push_pack_text.ensures.ok
    ∙ ap₂ ◌++◌ c.new-text.ensures.bytes (nothing_in_sarif c.args.self.now.printer.now c.args.files.now c.args.pack.now.findings sarif)
    )
