-- A gate that could not begin made no call, and one that began ran over the words that it was given.
use Rattle.std.proofs.Common.{refl}
use Rattle.std.proofs.lemmas.Result.{err_from_is_err_and}
use Rattle.deny_gate.proofs.StartLemmas.{kept_made}
use Rattle.deny_gate.proofs.gate_over.Goals as goal

pub returns-in_err-start : goal.returns-in_err-start
returns-in_err-start g c =
    let p = err_from_is_err_and c.from_residual.result c.from_residual.ensures.1 in
    rw (p.1, p.2)
    (record {
      made = kept_made (g.T.Tree.content c.args.tree.now) (g.T.Tree.content c.started.new.tree) (g.T.Tree.fault_count c.args.tree.now) (g.T.Tree.fault_count c.started.new.tree) (g.T.Tree.trace c.args.tree.now) (g.T.Tree.trace c.started.new.tree) c.in_err-start.ensures.kept;
      ran = tt;
      lost = (c.in_err-start.ensures.line, refl);
    })
