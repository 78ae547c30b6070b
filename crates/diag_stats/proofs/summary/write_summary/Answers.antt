use Rattle.tree_core.specs.Script.{to_err, to_out}
use Rattle.diag_stats.proofs.WrittenLemmas.{count_behind, unwritten_err, unwritten_out}
use Rattle.diag_stats.proofs.summary.write_summary.Goals as goal

pub returns-in-Human-clause-err : goal.returns-in-Human-clause-err
returns-in-Human-clause-err g c =
    let wrote = c.write_text.ensures in
    rw c.in-Human.is
    (unwritten_out c.write_text.result (g.O.Sink.written c.args.out.now) (g.O.Sink.written c.write_text.new.sink) (g.E.Sink.written c.args.err.now) c.args.text.now
    (g.O.Sink.fault_count c.args.out.now) (g.O.Sink.fault_count c.write_text.new.sink) (g.E.Sink.fault_count c.args.err.now) (g.E.Sink.fault_count c.args.err.now)
    wrote.err wrote.reason wrote.refused wrote.nothing)

pub returns-in-Json-clause-err : goal.returns-in-Json-clause-err
returns-in-Json-clause-err g c =
    let wrote = c.write_text-in-Json.ensures in
    rw c.in-Json.is
    (unwritten_err c.write_text-in-Json.result (g.E.Sink.written c.args.err.now) (g.E.Sink.written c.write_text-in-Json.new.sink) (g.O.Sink.written c.args.out.now) c.args.text.now
    (g.E.Sink.fault_count c.args.err.now) (g.E.Sink.fault_count c.write_text-in-Json.new.sink) (g.O.Sink.fault_count c.args.out.now) (g.O.Sink.fault_count c.args.out.now)
    wrote.err wrote.reason wrote.refused wrote.nothing)

pub returns-in-Sarif-clause-err : goal.returns-in-Sarif-clause-err
returns-in-Sarif-clause-err g c =
    let wrote = c.write_text-in-Sarif.ensures in
    rw c.in-Sarif.is
    (unwritten_err c.write_text-in-Sarif.result (g.E.Sink.written c.args.err.now) (g.E.Sink.written c.write_text-in-Sarif.new.sink) (g.O.Sink.written c.args.out.now) c.args.text.now
    (g.E.Sink.fault_count c.args.err.now) (g.E.Sink.fault_count c.write_text-in-Sarif.new.sink) (g.O.Sink.fault_count c.args.out.now) (g.O.Sink.fault_count c.args.out.now)
    wrote.err wrote.reason wrote.refused wrote.nothing)

-- ---- the count behind a refused write

pub returns-in-Human-clause-behind : goal.returns-in-Human-clause-behind
returns-in-Human-clause-behind g c =
    rw c.in-Human.is
    (count_behind c.write_text.result to_out (g.O.Sink.fault_count c.args.out.now) (g.O.Sink.fault_count c.write_text.new.sink) (g.E.Sink.fault_count c.args.err.now) c.write_text.ensures.reason)

pub returns-in-Json-clause-behind : goal.returns-in-Json-clause-behind
returns-in-Json-clause-behind g c =
    rw c.in-Json.is
    (count_behind c.write_text-in-Json.result to_err (g.E.Sink.fault_count c.args.err.now) (g.O.Sink.fault_count c.args.out.now) (g.E.Sink.fault_count c.write_text-in-Json.new.sink) c.write_text-in-Json.ensures.reason)

pub returns-in-Sarif-clause-behind : goal.returns-in-Sarif-clause-behind
returns-in-Sarif-clause-behind g c =
    rw c.in-Sarif.is
    (count_behind c.write_text-in-Sarif.result to_err (g.E.Sink.fault_count c.args.err.now) (g.O.Sink.fault_count c.args.out.now) (g.E.Sink.fault_count c.write_text-in-Sarif.new.sink) c.write_text-in-Sarif.ensures.reason)
