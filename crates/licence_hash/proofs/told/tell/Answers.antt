use Rattle.licence_hash.proofs.ToldLemmas.{told_one}
use Rattle.licence_hash.proofs.told.tell.Goals as goal

pub returns-clause-told : goal.returns-clause-told
returns-clause-told g c =
    told_one c.args.path.now c.in_ok-heard.heard c.faults-before.result (g.T.Tree.fault_count c.read_file_text.new.tree)
    (g.T.Tree.trace c.args.tree.now) (g.T.Tree.trace c.read_file_text.new.tree)
    (record { out = g.O.Sink.written c.args.out.now; err = g.E.Sink.written c.args.err.now })
    (record { out = g.O.Sink.written c.write_heard.new.out; err = g.E.Sink.written c.write_heard.new.err })
    c.in_ok-is_told.is_told c.in_ok-heard.ensures.read c.in_ok-is_told.ensures.out c.in_ok-is_told.ensures.err c.in_ok-is_told.ensures.told
