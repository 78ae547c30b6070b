use Rattle.std.proofs.Common.{◌≡◌, ◌∙◌, List, ap}
use Rattle.std.proofs.lemmas.Result.{IfOk-weaker}
use Rattle.graph_core.specs.Krate.{record_of}
use Rattle.policy_parts.specs.spec.Index.{matching_places}
use Rattle.gather_core.specs.Entries.{ClarificationEntry, clarifications_at, specs_of}
use Rattle.gather_core.proofs.PickLemmas.{items_matching}
use Rattle.gather_core.proofs.clarifications.ClarificationIndex.matching.Goals as goal

pub returns : goal.returns
returns c =
    let entries = c.args.self.now in
    let krate = record_of c.args.krate.now in
    let first : c.deref-2.result.now ≡ entries = c.deref-2.ensures.value ∙ c.self.view_is in
    let second : c.items.result.now ≡ matching_places (specs_of entries) krate =
    c.items.ensures ∙ c.in_ok-places.ensures ∙ ap (λ (all : List ClarificationEntry). matching_places (specs_of all) krate) (c.deref.ensures.value ∙ c.self.view_is) in
    IfOk-weaker c.at_places.result _ _
    (λ found is. is ∙ ap (λ (all : List ClarificationEntry). clarifications_at all c.items.result.now) first ∙ ap (clarifications_at entries) second ∙ items_matching krate entries)
    c.at_places.ensures
