use Rattle.std.proofs.Common.{None, ◌++◌, get_or, take, sym, ap, ◌∙◌}
use Rattle.std.proofs.lemmas.List.{take_more}
use Rattle.std.specs.Prelude.{option_to_list}
use Rattle.policy_core.specs.config.Places.{places_there}
use Rattle.policy_core.proofs.config.PlaceLemmas.{one_more}
use Rattle.policy_core.proofs.config.placed.places_of.Goals as goal

pub places-preserved : goal.places-preserved
places-preserved c =
    let places = c.args.places.now in
    let place = get_or places c.places.place-index None in
    c.in_ok-push_place.ensures ∙ ap (λ spans. spans ++ option_to_list place) c.places.invariant
    ∙ sym (one_more (take c.places.place-index places) place)
    ∙ sym (ap places_there (take_more places c.places.place-index None c.places-test.true))
