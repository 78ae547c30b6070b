-- One crate more is taken out.
use Rattle.std.proofs.Common.{◌≡◌, ◌+◌, ◌<◌, ◌∷◌, ◌++◌, length, map, drop, get_or, slice_get, List, None, Some, sym, subst, ap, ◌∙◌, length-set}
use Rattle.std.specs.List.{AllByRecursion, cons_option, filter_map}
use Rattle.std.proofs.lemmas.List.{length-map}
use Rattle.graph_metadata.specs.declared.order.Spot.{Spot}
use Rattle.graph_metadata.specs.Order.{spot_place}
use Rattle.graph_metadata.specs.Sound.{AreApart}
use Rattle.graph_metadata.proofs.Drops.{at-drop-or}
use Rattle.graph_metadata.proofs.LeftLemmas.{put-next}
use Rattle.graph_metadata.proofs.OrderLemmas.{Held, held-all, held-rest}
use Rattle.graph_metadata.proofs.order.crates_in_order.Goals as goal

abbrev no_spot : Spot
no_spot = record { place = 0; node = None }

pub spots-init : goal.spots-init
spots-init c = record {
  held = subst (λ slots. Held slots c.args.crates.items (map spot_place c.args.spots.now)) (sym c.in_ok-slots.ensures)
      (held-all c.args.crates.items (map spot_place c.args.spots.now));
  apart = c.requires.apart;
  below = subst (λ slots. AllByRecursion (λ place. place < length slots) (map spot_place c.args.spots.now)) (sym c.in_ok-slots.ensures)
      (subst (λ n. AllByRecursion (λ place. place < n) (map spot_place c.args.spots.now)) (sym (length-map c.args.crates.items Some))
      c.requires.within);
  so_far = ap (λ list. list ++ filter_map (slice_get c.args.crates.items) (map spot_place c.args.spots.now)) c.in_ok-ordered.ensures.items;
}

pub taken-krate-requires : goal.taken-krate-requires
taken-krate-requires c =
    (subst (λ left. AllByRecursion (λ place. place < length c.spots.slots.items) (map spot_place left))
    (at-drop-or c.args.spots.now c.spots.spot-index no_spot c.spots-test.true) c.spots.invariant.below).0

pub spots-preserved : goal.spots-preserved
spots-preserved c =
    let spot : Spot = get_or c.args.spots.now c.spots.spot-index no_spot in
    let rest : List Spot = drop (c.spots.spot-index + 1) c.args.spots.now in
    let is : drop c.spots.spot-index c.args.spots.now ≡ spot ∷ rest =
    at-drop-or c.args.spots.now c.spots.spot-index no_spot c.spots-test.true in
    let held : Held c.spots.slots.items c.args.crates.items (map spot_place (spot ∷ rest)) =
    subst (λ left. Held c.spots.slots.items c.args.crates.items (map spot_place left)) is c.spots.invariant.held in
    let apart : AreApart (map spot_place (spot ∷ rest)) =
    subst (λ left. AreApart (map spot_place left)) is c.spots.invariant.apart in
    let below : AllByRecursion (λ place. place < length c.spots.slots.items) (map spot_place (spot ∷ rest)) =
    subst (λ left. AllByRecursion (λ place. place < length c.spots.slots.items) (map spot_place left)) is c.spots.invariant.below in
    record {
      held = subst (λ slots. Held slots c.args.crates.items (map spot_place rest)) (sym c.taken-krate.ensures.after)
          (held-rest c.spots.slots.items c.args.crates.items spot.place (map spot_place rest) apart.0 held.1);
      apart = apart.1;
      below = subst (λ n. AllByRecursion (λ place. place < n) (map spot_place rest))
          (sym (ap length c.taken-krate.ensures.after ∙ length-set c.spots.slots.items spot.place None)) below.1;
      so_far = ap (λ list. list ++ filter_map (slice_get c.args.crates.items) (map spot_place rest)) c.in_ok-put.ensures
          ∙ (put-next c.spots.ordered.items c.taken-krate.result (filter_map (slice_get c.args.crates.items) (map spot_place rest))
          ∙ (ap (λ o. c.spots.ordered.items ++ cons_option o (filter_map (slice_get c.args.crates.items) (map spot_place rest)))
          (c.taken-krate.ensures.value ∙ held.0)
          ∙ (ap (λ left. c.spots.ordered.items ++ filter_map (slice_get c.args.crates.items) (map spot_place left)) (sym is)
          ∙ c.spots.invariant.so_far)));
    }
