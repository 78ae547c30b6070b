use Rattle.std.proofs.Common.{◌≡◌, ◌∙◌, List, ℕ, ap}
use Rattle.std.proofs.lemmas.Result.{IfOk-weaker}
use Rattle.std.specs.Option.{option_to_list}
use Rattle.graph_core.specs.Krate.{record_of}
use Rattle.policy_parts.specs.spec.Index.{first_of, matching_places}
use Rattle.gather_core.specs.Exceptions.{ExceptionEntry, ExceptionRules, exception_specs}
use Rattle.gather_core.proofs.ExceptionLemmas.{places_for}
use Rattle.gather_core.proofs.exceptions.ExceptionIndex.first.Goals as goal

pub returns : goal.returns
returns c =
    let entries = c.args.self.now.entries in
    let krate = record_of c.args.krate.now in
    let place : c.first-place.result ≡ first_of (matching_places (exception_specs entries) krate) =
    c.first-place.ensures
    ∙ ap (λ (all : List ExceptionEntry). first_of (matching_places (exception_specs all) krate)) (c.deref.ensures.value ∙ ap (λ (rules : ExceptionRules). rules.entries) c.self.view_is) in
    IfOk-weaker c.alone.result _ _ (λ places is. is ∙ ap option_to_list place ∙ ap (λ (all : List ℕ). option_to_list (first_of all)) (places_for krate entries)) c.alone.ensures
