use Rattle.std.proofs.Common.{sym, subst}
use Rattle.toml_subset.specs.key_index.KeyPlaces.{HasPlacesFrom}
use Rattle.toml_subset.proofs.key_index.Lemmas.{no_places, one_more_place}
use Rattle.toml_subset.proofs.key_index.places.+all_places.Goals as goal

pub returns-in_default : goal.returns-in_default
returns-in_default t c = no_places c.args.first c.args.keys.now c.new.result c.in_default.ensures.cases c.new.ensures

pub returns : goal.returns
returns t c =
    let key = c.in-Some.key.now in
    let rest = c.in-Some.rest.now in
    let whole = c.in-Some.ensures.cases.0 in
    subst (λ m. HasPlacesFrom c.args.first m c.args.keys.now) (sym c.in_ok-all.ensures)
    (subst (HasPlacesFrom c.args.first _) (sym whole) (one_more_place c.args.first key rest c.in_ok-further.further c.in_ok-further.ensures))
