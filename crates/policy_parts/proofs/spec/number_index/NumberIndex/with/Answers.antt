use Rattle.std.proofs.Common.{sym, ap, length, subst}
use Rattle.policy_parts.specs.spec.Index.{HasFurther, HasNumberPlaces}
use Rattle.policy_parts.proofs.spec.IndexLemmas.{has_further}
use Rattle.policy_parts.proofs.spec.number_index.NumberIndex.with.Goals as goal

pub invariant_of-result : goal.invariant_of-result
invariant_of-result c =
    let before = c.self.inside.places in
    let after = c.add_place.new.places in
    let numbers = c.self.inside.numbers.items in
    let more : HasFurther before after c.args.number _ = c.in_ok-add_place.ensures in
    subst (HasNumberPlaces after) (sym c.in_ok-push.ensures.items)
    (has_further before after numbers c.args.number c.self.invariant (subst (HasFurther before after c.args.number) (ap length c.as_slice-place.ensures.value) more))
