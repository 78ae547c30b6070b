use Rattle.std.proofs.Common.{◌∙◌, ◌<◌, ap, length, take, rules, arith, subst, sym}
use Rattle.spdx_terms.specs.catalog.StorePlaces.{FindsPlaces, all_named, with_new}
use Rattle.spdx_terms.proofs.catalog.StorePlaceLemmas.{no_places, one_more_named, one_more_place, so_many_names}
use Rattle.spdx_terms.proofs.catalog.store.names_of.Goals as goal

pub texts-init : goal.texts-init
texts-init c = no_places c.new-places.result c.new-places.ensures

pub texts-preserved : goal.texts-preserved
texts-preserved c =
    let so_far = all_named (take c.texts.place c.args.texts.now) in
    let key = c.index-texts-place.result.name in
    let within : c.texts.place < length c.args.texts.now = search rules in
    let more = one_more_named c.args.texts.now c.texts.place c.index-texts-place.result within c.index-texts-place.is in
    let at = so_many_names c.args.texts.now c.texts.place (omega (arith, within)) in
    let added = c.in_ok-add_name.ensures ∙ ap (λ name. with_new c.texts.places name c.texts.place) c.as_str.ensures in
    subst (λ known. FindsPlaces c.add_name.new.places known) (sym more)
    (one_more_place c.texts.places c.add_name.new.places so_far key c.texts.place c.texts.invariant added at)
