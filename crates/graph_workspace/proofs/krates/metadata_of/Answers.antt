use Rattle.std.proofs.Common.{◌∙◌, ap, sym, subst}
use Rattle.std.proofs.lemmas.Result.{err_from_is_err_and}
use Rattle.graph_metadata.specs.Records.{metadata_of, IsMetaCause}
use Rattle.graph_workspace.specs.Krates.{graph_in}
use Rattle.graph_workspace.proofs.KratesLemmas.{text_refused, text_told}
use Rattle.graph_workspace.proofs.krates.metadata_of.Goals as goal

pub returns-in_err-records-in-Ok-clause-told : goal.returns-in_err-records-in-Ok-clause-told
returns-in_err-records-in-Ok-clause-told c =
    let error = c.in_err-records-in-Ok.field-0.0 in
    let p = err_from_is_err_and c.from_residual.result c.from_residual.ensures.1 in
    rw (p.1, p.2)
    (text_refused c.in-Ok.text c.sparse_dir.result.now c.args.heard error c.in-Ok.is c.sparse_dir.ensures
    (subst (λ text. IsMetaCause error (metadata_of text c.sparse_dir.result.now)) c.as_str.ensures c.in_err-records-in-Ok.ensures.cause))

pub returns-in_ok-records-in-Ok-clause-told : goal.returns-in_ok-records-in-Ok-clause-told
returns-in_ok-records-in-Ok-clause-told c =
    text_told c.in-Ok.text c.sparse_dir.result.now c.args.heard c.in_ok-records-in-Ok.field-0 c.in-Ok.is c.sparse_dir.ensures
    (ap (λ text. metadata_of text c.sparse_dir.result.now) (sym c.as_str.ensures) ∙ c.in_ok-records-in-Ok.ensures.records)

pub returns-in-Err-clause-told : goal.returns-in-Err-clause-told
returns-in-Err-clause-told c = ap graph_in c.in-Err.is
