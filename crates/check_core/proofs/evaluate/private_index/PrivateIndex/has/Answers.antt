use Rattle.std.proofs.Common.{ap, map, sym, ◌∙◌}
use Rattle.std.specs.List.{list_any}
use Rattle.policy_parts.specs.spec.Index.{name_number, places_of}
use Rattle.check_core.specs.evaluate.Private.{PrivateNumbers, is_at}
use Rattle.check_core.proofs.evaluate.PrivateLemmas.{named}
use Rattle.check_core.proofs.evaluate.private_index.PrivateIndex.has.Goals as goal

pub returns : goal.returns
returns c =
    let names = c.args.registries.now in
    let name = c.args.name.now in
    c.is_at_any.ensures
    ∙ ap (list_any (is_at names name)) (c.places.ensures ∙ ap (places_of c.name_number.result) (ap (λ (numbers : PrivateNumbers). numbers.registries) c.self.view_is ∙ sym c.requires) ∙ ap (λ n. places_of n (map name_number names)) c.name_number.ensures)
    ∙ named names name
