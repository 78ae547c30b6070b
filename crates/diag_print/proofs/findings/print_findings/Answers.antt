use Rattle.std.proofs.Common.{refl}
use Rattle.diag_print.proofs.FindingsLemmas.{off_is_silent, gained_nothing}
use Rattle.diag_print.proofs.findings.print_findings.Goals as goal

pub returns-in-None-clause-ok : goal.returns-in-None-clause-ok
returns-in-None-clause-ok g c =
    gained_nothing _ _ (off_is_silent c.args.context c.args.files.now c.args.findings.now (c.in-None.ensures.none.0 refl))
