-- One rank more.
use Rattle.std.proofs.Common.{◌+◌, ◌<◌, length, map, get_or, None, sym, subst, ap, ◌∙◌, length-set}
use Rattle.graph_metadata.specs.declared.order.Spot.{Spot}
use Rattle.graph_metadata.specs.Order.{AreRanks, spot_place}
use Rattle.graph_metadata.proofs.LeftLemmas.{place-at, place-below}
use Rattle.graph_metadata.proofs.OrderLemmas.{ranks-more}
use Rattle.graph_metadata.proofs.order.ranks_of.Goals as goal

abbrev no_spot : Spot
no_spot = record { place = 0; node = None }

pub set_rank-requires : goal.set_rank-requires
set_rank-requires c =
    subst (λ n. (get_or c.args.spots.now c.ranks.rank no_spot).place < n) (sym c.ranks.invariant.counted)
    (place-below c.args.count c.args.spots.now c.ranks.rank no_spot c.requires c.ranks-test.true)

pub ranks-preserved : goal.ranks-preserved
ranks-preserved c = record {
  counted = ap length c.set_rank.ensures
      ∙ (length-set c.ranks.ranks.items (get_or c.args.spots.now c.ranks.rank no_spot).place c.ranks.rank
      ∙ c.ranks.invariant.counted);
  ranked = subst (AreRanks (map spot_place c.args.spots.now) (c.ranks.rank + 1)) (sym c.set_rank.ensures)
      (ranks-more (map spot_place c.args.spots.now) c.ranks.ranks.items c.ranks.rank
      (get_or c.args.spots.now c.ranks.rank no_spot).place
      (place-at c.args.spots.now c.ranks.rank no_spot c.ranks-test.true)
      (subst (λ n. (get_or c.args.spots.now c.ranks.rank no_spot).place < n) (sym c.ranks.invariant.counted)
      (place-below c.args.count c.args.spots.now c.ranks.rank no_spot c.requires c.ranks-test.true))
      c.ranks.invariant.ranked);
}
