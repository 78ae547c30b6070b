use Rattle.run_sample.specs.Metadata.{node_text}
use Rattle.run_sample.proofs.NumberLemmas.{text_more}
use Rattle.run_sample.proofs.metadata.push_nodes.Goals as goal

pub crates-preserved : goal.crates-preserved
crates-preserved c = text_more (node_text c.args.count) _ _ _ c.crates.i c.crates.invariant c.in_ok-push_node.ensures
