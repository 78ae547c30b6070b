use Rattle.spdx_terms.proofs.families.MapLemmas.{has_two}
use Rattle.spdx_terms.proofs.families.map.two_places.Goals as goal

pub returns : goal.returns
returns c = has_two c.new-map.result c.add_place.new.map c.add_place-2.new.map c.args.first c.args.second c.new-map.ensures.empty c.in_ok-add_place.ensures.ok c.in_ok-add_place-2.ensures.ok
