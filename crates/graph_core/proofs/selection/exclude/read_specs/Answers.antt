use Rattle.std.proofs.Common.{◌∙◌, map}
use Rattle.graph_core.specs.selection.Choice.{exclude_spec_of}
use Rattle.graph_core.proofs.selection.ReadLemmas.{front_then, read-next}
use Rattle.graph_core.proofs.selection.exclude.read_specs.Goals as goal

pub texts-preserved : goal.texts-preserved
texts-preserved c = (
  read-next c.args.texts.now c.texts.text-index c.text-item.result (map exclude_spec_of c.texts.specs) (map exclude_spec_of c.push_spec.new.specs)
      c.texts-test.true c.text-item.is c.in_ok-push_spec.ensures.ok
      ∙ c.texts.invariant.0,
  front_then c.args.specs.now c.texts.specs c.push_spec.new.specs c.texts.invariant.1 c.in_ok-push_spec.ensures.front,
)
