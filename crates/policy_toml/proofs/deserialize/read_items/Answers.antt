use Rattle.std.specs.Result.{result_ok}
use Rattle.toml_subset.specs.shapes.Shaped.{faults_in}
use Rattle.toml_value.specs.Views.{value_view}
use Rattle.policy_toml.proofs.ListReading.{values_more, faults_more}
use Rattle.policy_toml.proofs.deserialize.read_items.Goals as goal

pub values-preserved : goal.values-preserved
values-preserved g c = record {
  items = values_more (λ v. result_ok (g.T.Deserialize.reads c.args.context.now v)) (λ v. value_view v) c.values.yielded c.in-Some.value _ _
      c.values.invariant.items c.in_ok-read_item.ensures.items;
  errors = faults_more (λ v. faults_in (g.T.Deserialize.reads c.args.context.now v)) (λ v. value_view v) c.values.yielded c.in-Some.value _ _
      c.values.invariant.errors c.in_ok-read_item.ensures.errors;
}
