use Rattle.std.proofs.Common.{arith}
use Rattle.diag_core.specs.Overrides.{finding_at_level}
use Rattle.diag_core.proofs.ListLemmas.{mapped_front_more}
use Rattle.diag_core.proofs.overrides.DiagnosticOverrides.apply_all.Goals as goal

pub findings-preserved : goal.findings-preserved
findings-preserved c =
    mapped_front_more (finding_at_level c.args.self.now) c.args.findings.now c.findings.findings c.findings.finding-index c.finding-item.result c.apply.new.finding
    (omega arith) c.findings.invariant c.apply.ensures
