use Rattle.std.proofs.lemmas.Result.{err_from_is_err_and}
use Rattle.graph_core.specs.selection.Choice.{choice_of}
use Rattle.graph_workspace.proofs.KratesLemmas.{build_refused, graph_refused}
use Rattle.graph_workspace.proofs.krates.krates_of.Goals as goal

pub returns-in_err-metadata-clause-from : goal.returns-in_err-metadata-clause-from
returns-in_err-metadata-clause-from c =
    let p = err_from_is_err_and c.from_residual.result c.from_residual.ensures.1 in
    rw (p.1, p.2) (graph_refused (choice_of c.args.selection.now) c.args.heard c.in_err-metadata.field-0.0 c.in_err-metadata.ensures.told)

pub returns-in_err-build-clause-from : goal.returns-in_err-build-clause-from
returns-in_err-build-clause-from c =
    let p = err_from_is_err_and c.from_residual-in_err-build.result c.from_residual-in_err-build.ensures.1 in
    rw (p.1, p.2)
    (build_refused (choice_of c.args.selection.now) c.args.heard c.in_ok-metadata.metadata c.in_err-build.field-0.0 c.in_ok-metadata.ensures.told
    c.in_err-build.ensures.cause)

pub returns-clause-from : goal.returns-clause-from
returns-clause-from c = record {
  graph = c.in_ok-metadata.metadata;
  tells = c.in_ok-metadata.ensures.told;
  rooted = c.in_ok-build.ensures.rooted;
  reached = c.in_ok-build.ensures.chosen;
}
