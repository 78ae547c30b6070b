use Rattle.std.proofs.Common.{refl}
use Rattle.diag_core.proofs.ScanLemmas.{start_behind, start_of_first}
use Rattle.diag_core.proofs.line_scan.start_before.Goals as goal

pub returns-in-Some : goal.returns-in-Some
returns-in-Some c = start_behind c.args.bytes.now c.args.end c.requires _ refl c.in-Some.feed c.in-Some.ensures.0 c.in-Some.ensures.1

pub returns-in-None : goal.returns-in-None
returns-in-None c = start_of_first c.args.bytes.now c.args.end c.requires _ refl c.in-None.ensures
