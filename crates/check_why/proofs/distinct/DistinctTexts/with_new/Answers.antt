use Rattle.std.proofs.Common.{◌≡◌, ◌∙◌, ℕ, List, [], ◌∷◌, ◌++◌, ap, length, subst, sym}
use Rattle.std.specs.FinMap.{insert}
use Rattle.check_why.specs.Distinct.{KnowsTexts}
use Rattle.check_why.proofs.DistinctLemmas.{one_more_text}
use Rattle.check_why.proofs.distinct.DistinctTexts.with_new.Goals as goal

pub invariant_of-result : goal.invariant_of-result
invariant_of-result c =
    let text = c.args.text.now in
    let texts : List (List ℕ) = c.self.inside.texts in
    let places = c.self.inside.places in
    let place = length c.items-place.result.now in
    let pushed : c.push.new.self ≡ texts ++ text ∷ [] = c.in_ok-push.ensures.ok ∙ ap (λ (one : List ℕ). texts ++ one ∷ []) c.in_ok-text.ensures in
    subst (KnowsTexts c.insert.new.self) (sym pushed)
    (one_more_text places c.insert.new.self texts text place c.self.invariant
    (c.in_ok-insert.ensures.ok ∙ ap (λ (key : List ℕ). insert places key place) c.in_ok-key.ensures))
