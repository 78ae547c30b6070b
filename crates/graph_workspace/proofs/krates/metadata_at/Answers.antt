use Rattle.std.proofs.lemmas.Result.{err_from_is_err_and}
use Rattle.graph_workspace.proofs.KratesLemmas.{graph_by, graph_counts}
use Rattle.tree_core.specs.Call.{no_memory}
use Rattle.graph_workspace.proofs.krates.metadata_at.Goals as goal

pub returns-clause-counts : goal.returns-clause-counts
returns-clause-counts g c = graph_counts _ _ _ c.in_ok-heard.heard c.metadata_of.result c.in_ok-heard.ensures.counts c.metadata_of.ensures.told

pub returns-clause-read : goal.returns-clause-read
returns-clause-read g c = graph_by _ _ _ _ _ c.in_ok-heard.heard c.metadata_of.result c.in_ok-heard.ensures.read c.metadata_of.ensures.told

pub returns-in_err-heard-clause-read : goal.returns-in_err-heard-clause-read
returns-in_err-heard-clause-read g c =
    let p = err_from_is_err_and c.from_residual.result c.from_residual.ensures.1 in
    rw (p.1, p.2) (no_memory, c.in_err-heard.ensures.no_memory)
