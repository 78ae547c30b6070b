use Rattle.std.proofs.Common.{◌≡◌, ◌∙◌, ap, subst, ◌++◌, map}
use Rattle.std.specs.Prelude.{OnOk}
use Rattle.toml_subset.specs.shapes.ShapeViews.{fault_of}
use Rattle.policy_core.specs.Exceptions.{shape_diagnostic}
use Rattle.policy_core.proofs.MapLemmas.{map_twice}
use Rattle.policy_core.proofs.findings.tell_shape.Goals as goal

pub returns-clause-ok : goal.returns-clause-ok
returns-clause-ok c =
    let tell = shape_diagnostic c.args.file in
    subst (λ told. OnOk c.tell_faults.result (c.tell_faults.new.found ≡ c.args.found.now ++ told))
    (map_twice tell fault_of c.items.result.now ∙ ap (map tell) c.items.ensures) c.tell_faults.ensures.ok
