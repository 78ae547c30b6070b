-- A value that holds no float passes.
use Rattle.std.proofs.Common.{sym, ◌∙◌}
use Rattle.serde_json.specs.View.{view}
use Rattle.graph_metadata.proofs.FloatWalks.{float-free}
use Rattle.graph_metadata.proofs.floats.unless_float.Goals as goal

pub returns-then-not-holds_float : goal.returns-then-not-holds_float
returns-then-not-holds_float c =
    float-free (view c.args.value.now) (sym c.holds_float.ensures ∙ c.if-not-holds_float.true)
