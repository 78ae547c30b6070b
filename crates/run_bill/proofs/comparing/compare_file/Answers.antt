use Rattle.std.proofs.Common.{◌∙◌, ap, refl, subst, sym, Ok, Err}
use Rattle.std.proofs.lemmas.Result.{err_from_is_err_and}
use Rattle.tree_core.specs.Call.{no_memory}
use Rattle.tree_core.specs.texts.Heard.{IsTextRead}
use Rattle.run_found.specs.declared.error.Error.TheVariants.{BillRead}
use Rattle.run_bill.proofs.BillLemmas.{heard_read, none_read}
use Rattle.run_bill.proofs.comparing.compare_file.Goals as goal

pub returns-in_err-text : goal.returns-in_err-text
returns-in_err-text g c =
    let p = err_from_is_err_and c.from_residual.result c.from_residual.ensures.1 in
    rw (p.1, p.2) (none_read c.args.made c.args.path.now _ _ _ _ _ _ c.in_err-text.ensures.made no_memory c.in_err-text.ensures.no_memory)

pub returns-in-Ok : goal.returns-in-Ok
returns-in-Ok g c =
    let read = subst (IsTextRead c.faults-begun.result (g.T.Tree.fault_count c.read_file_text.new.tree) (g.T.Tree.trace c.args.tree.now) (g.T.Tree.trace c.read_file_text.new.tree) c.args.path.now)
    (c.in-Ok.is ∙ ap Ok (sym c.as_str.ensures)) c.in_ok-text.ensures.read in
    heard_read c.args.made c.args.path.now _ _ _ _ _ _ c.in_ok-text.ensures.made c.faults-begun.result (Ok c.as_str.result.now) c.faults-begun.ensures read
    c.compare_text.result c.compare_text.ensures

-- it was not read
pub returns-in-Err : goal.returns-in-Err
returns-in-Err g c =
    let read = subst (IsTextRead c.faults-begun.result (g.T.Tree.fault_count c.read_file_text.new.tree) (g.T.Tree.trace c.args.tree.now) (g.T.Tree.trace c.read_file_text.new.tree) c.args.path.now)
    c.in-Err.is c.in_ok-text.ensures.read in
    heard_read c.args.made c.args.path.now _ _ _ _ _ _ c.in_ok-text.ensures.made c.faults-begun.result (Err c.in-Err.fault) c.faults-begun.ensures read
    (Err (BillRead c.in-Err.fault c.args.made.reads)) (λ count answer hears. record { hears = hears; reads_are = refl })
