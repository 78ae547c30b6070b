use Rattle.std.proofs.Common.{◌≡◌, ◌∙◌, ℕ, List, [], ◌∷◌, ◌++◌, None, ap, length, position, subst, sym}
use Rattle.std.specs.FinMap.{insert}
use Rattle.std.specs.Str.{bytes_eq}
use Rattle.check_notice.specs.Numbers.{FindsTexts}
use Rattle.check_notice.proofs.PlaceLemmas.{one_more_text}
use Rattle.check_notice.proofs.numbers.TextNumbers.with_new.Goals as goal

pub invariant_of-result : goal.invariant_of-result
invariant_of-result c =
    let text = c.args.text.now in
    let texts : List (List ℕ) = c.self.inside.texts in
    let places = c.self.inside.places in
    let place = length c.items-place.result.now in
    let view : texts ≡ c.args.self = c.self.view_is in
    let none : position (λ one. bytes_eq one text) texts ≡ None = ap (position (λ one. bytes_eq one text)) view ∙ c.requires in
    let pushed : c.push.new.self ≡ texts ++ text ∷ [] = c.in_ok-push.ensures.ok ∙ ap (λ (one : List ℕ). texts ++ one ∷ []) c.in_ok-text.ensures in
    subst (FindsTexts c.insert.new.self) (sym pushed)
    (one_more_text places c.insert.new.self texts text place c.self.invariant none
    (c.in_ok-insert.ensures.ok ∙ ap (λ (key : List ℕ). insert places key place) c.in_ok-key.ensures)
    (ap length c.items-place.ensures))
