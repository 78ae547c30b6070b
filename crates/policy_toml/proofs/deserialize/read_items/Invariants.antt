use Rattle.std.proofs.Common.{◌≡◌, map}
use Rattle.std.specs.List.{filter_map, flat_map}
use Rattle.std.specs.Result.{result_ok}
use Rattle.toml_subset.specs.shapes.Shaped.{faults_in}
use Rattle.toml_value.specs.Views.{value_view}
use Rattle.policy_toml.proofs.deserialize.read_items.Given as goal

-- what was read of the items so far, and what was wrong with them
abbrev pub invariant-values : goal.invariant-values
invariant-values g l = record {
  items : l.items ≡ filter_map (λ v. result_ok (g.T.Deserialize.reads l.context v)) (map (λ v. value_view v) l.yielded);
  errors : l.errors ≡ flat_map (λ v. faults_in (g.T.Deserialize.reads l.context v)) (map (λ v. value_view v) l.yielded);
}
