-- One pair more: it is the last where it names a branch, a tag or a revision.
use Rattle.std.proofs.Common.{◌∙◌, ap, sym}
use Rattle.graph_core.specs.source.Git.{last_spec_pair}
use Rattle.graph_core.proofs.source.QueryLemmas.{last_spec-more}
use Rattle.graph_core.proofs.source.query.last_spec.Goals as goal

pub pairs-preserved : goal.pairs-preserved
pairs-preserved c =
    c.later-found.ensures
    ∙ (ap (λ found. last_spec_pair found c.pair-item.result) c.pairs.invariant
    ∙ sym (last_spec-more c.args.pairs.now c.pairs.pair-index c.pair-item.result c.pairs-test.true (sym c.pair-item.is)))
