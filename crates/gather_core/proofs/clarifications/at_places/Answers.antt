use Rattle.gather_core.proofs.PickLemmas.{items_push}
use Rattle.gather_core.proofs.clarifications.at_places.Goals as goal

pub places-preserved : goal.places-preserved
places-preserved c =
    items_push c.args.entries.now c.args.places.now c.places.place-index c.clarification_at-item.result c.places.found.items _
    c.places-test.true c.in_ok-put_some.ensures c.places.invariant c.clarification_at-item.ensures
