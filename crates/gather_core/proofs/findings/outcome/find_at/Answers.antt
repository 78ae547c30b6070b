use Rattle.std.proofs.Common.{[], unwrap_or, arith}
use Rattle.graph_core.specs.Krate.{record_of}
use Rattle.gather_core.proofs.findings.MarkLemmas.{all_fit}
use Rattle.gather_core.proofs.findings.outcome.find_at.Goals as goal

pub field_findings-requires : goal.field_findings-requires
field_findings-requires c =
    all_fit c.args.at (unwrap_or (record_of c.args.case.now.krate.now).license []) c.args.case.now.faults.now c.requires.long (omega arith) c.requires.lie
