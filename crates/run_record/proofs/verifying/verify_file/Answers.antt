use Rattle.std.proofs.Common.{◌∙◌, ap, subst, sym, Ok, Err}
use Rattle.std.proofs.lemmas.Result.{err_from_is_err_and}
use Rattle.tree_core.specs.Call.{no_memory}
use Rattle.tree_core.specs.texts.Heard.{IsTextRead}
use Rattle.run_found.specs.declared.error.Error.TheVariants.{Memory, RecordRead}
use Rattle.run_record.proofs.VerifyLemmas.{heard_read, none_read}
use Rattle.run_record.proofs.verifying.verify_file.Goals as goal

pub returns-in_err-text : goal.returns-in_err-text
returns-in_err-text g c =
    let p = err_from_is_err_and c.from_residual.result c.from_residual.ensures.1 in
    rw (p.1, p.2) (none_read c.args.policy.now c.args.summary.nfos c.args.path.now _ _ _ _ _ _ c.in_err-text.ensures.made no_memory c.in_err-text.ensures.no_memory)

pub returns-in-Ok : goal.returns-in-Ok
returns-in-Ok g c =
    let read = subst (IsTextRead c.faults-begun.result (g.T.Tree.fault_count c.read_file_text.new.tree) (g.T.Tree.trace c.args.tree.now) (g.T.Tree.trace c.read_file_text.new.tree) c.args.path.now)
    (c.in-Ok.is ∙ ap Ok (sym c.as_str.ensures)) c.in_ok-text.ensures.read in
    heard_read c.args.policy.now c.args.summary.nfos c.args.path.now _ _ _ _ _ _ c.in_ok-text.ensures.made c.faults-begun.result (Ok c.as_str.result.now) c.faults-begun.ensures read
    c.verify_text.result c.verify_text.ensures

-- ---- it was not read

pub returns-in_err-reads-in-Err : goal.returns-in_err-reads-in-Err
returns-in_err-reads-in-Err g c =
    let read = subst (IsTextRead c.faults-begun.result (g.T.Tree.fault_count c.read_file_text.new.tree) (g.T.Tree.trace c.args.tree.now) (g.T.Tree.trace c.read_file_text.new.tree) c.args.path.now)
    c.in-Err.is c.in_ok-text.ensures.read in
    let p = err_from_is_err_and c.from_residual-in_err-reads-in-Err.result c.from_residual-in_err-reads-in-Err.ensures.1 in
    rw (p.1, p.2)
    (heard_read c.args.policy.now c.args.summary.nfos c.args.path.now _ _ _ _ _ _ c.in_ok-text.ensures.made c.faults-begun.result (Err c.in-Err.fault) c.faults-begun.ensures read
    (Err Memory) (λ count answer hears. tt))

pub returns-in_ok-reads-in-Err : goal.returns-in_ok-reads-in-Err
returns-in_ok-reads-in-Err g c =
    let read = subst (IsTextRead c.faults-begun.result (g.T.Tree.fault_count c.read_file_text.new.tree) (g.T.Tree.trace c.args.tree.now) (g.T.Tree.trace c.read_file_text.new.tree) c.args.path.now)
    c.in-Err.is c.in_ok-text.ensures.read in
    heard_read c.args.policy.now c.args.summary.nfos c.args.path.now _ _ _ _ _ _ c.in_ok-text.ensures.made c.faults-begun.result (Err c.in-Err.fault) c.faults-begun.ensures read
    (Err (RecordRead c.in-Err.fault c.in_ok-reads-in-Err.reads)) (λ count answer hears. record { hears = hears; reads_are = c.in_ok-reads-in-Err.ensures })
