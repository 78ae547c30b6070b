use Rattle.diag_print.proofs.FindingsLemmas.{unwritten}
use Rattle.diag_print.proofs.findings.add_one.Goals as goal

pub returns-in_err-push_text-clause-err : goal.returns-in_err-push_text-clause-err
returns-in_err-push_text-clause-err g c = unwritten c.from_residual.result (g.S.Sink.written c.args.sink.now) _
