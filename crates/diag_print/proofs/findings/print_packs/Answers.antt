use Rattle.std.proofs.Common.{refl}
use Rattle.diag_print.proofs.FindingsLemmas.{gained_nothing, packs_are_silent}
use Rattle.diag_print.proofs.findings.print_packs.Goals as goal

pub returns-in-None-clause-ok : goal.returns-in-None-clause-ok
returns-in-None-clause-ok g c =
    gained_nothing _ _ (packs_are_silent c.args.context c.args.files.now c.args.packs.now (c.in-None.ensures.none.0 refl))
