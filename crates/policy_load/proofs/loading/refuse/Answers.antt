use Rattle.std.proofs.Common.{Err, sym, subst}
use Rattle.policy_load.specs.Answer.{Comes, error_of_print, refused_by}
use Rattle.policy_load.proofs.StageLemmas.{shape_refused}
use Rattle.policy_load.proofs.loading.refuse.Goals as goal

pub returns-in-Err-clause-comes : goal.returns-in-Err-clause-comes
returns-in-Err-clause-comes g c =
    let before = g.S.Sink.written c.args.sink.now in
    let behind = g.S.Sink.written c.print_faults.new.sink in
    subst (λ error. Comes (refused_by c.args.file c.args.refused) c.args.context c.args.files.now c.args.files.now before behind (Err error)) (sym c.from.ensures)
    (subst (λ refused. Comes (refused_by c.args.file refused) c.args.context c.args.files.now c.args.files.now before behind (Err (error_of_print c.in-Err.error))) (sym c.in-ConfigShape.is)
    (shape_refused c.args.context c.args.file c.args.files.now before behind c.in-ConfigShape.faults c.in-Err.error c.in-Err.ensures.err))
