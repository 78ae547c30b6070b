-- The laws.
use Rattle.std.proofs.Common.{◌≡◌, ◌∙◌, refl, sym, ap, ℕ, ◌+◌, Bool, true, false, ◌&&◌, IsTrue, List, Option, Some, None, is_some, arith, eqb}
use Rattle.std.specs.Prelude.{All, Any, Contains}
use Rattle.std.specs.List.{list_all}
use Rattle.std.proofs.lemmas.Bool.{both_ways, ne_eqb, eqb-true, eqb-false, true≢false}
use Rattle.std.proofs.lemmas.List.Elements.{All-weaker, All-contains}
use Rattle.std.proofs.lemmas.List.Folds.{Any-from_list_any, list_any-from_Any, list_any-append}
use Rattle.std.proofs.lemmas.List.Sums.{AllPass-from_list_all, list_all-from_AllPass}
use Rattle.spdx_core.specs.Grammar.{ExpressionTree, both}
use Rattle.spdx_core.specs.certificates.Choices.{choices_of, is_accepted, first_choice, MeetEach}
use Rattle.spdx_core.specs.certificates.Marks.{fewest_misses}
use Rattle.spdx_core.specs.certificates.Laws.{IsBySides}
use Rattle.spdx_core.proofs.certificates.ChoiceLemmas.{accepted, any_found}

pub no_blocks : (has_hit : ℕ → Bool) (tree : ExpressionTree) (places : List ℕ) → IsTrue (is_accepted has_hit tree) → All (λ place. has_hit place ≡ false) places → MeetEach places (choices_of tree) → ⊥
no_blocks has_hit tree places accepts without meet =
    let met = Any-from_list_any (list_all has_hit) (choices_of tree) accepts in
    let held = All-contains (λ choice. Any (Contains choice) places) (choices_of tree) met.1 meet (met.0, met.2, met.3) in
    both_ways (has_hit held.1)
    (All-contains (λ place. has_hit place ≡ false) places held.1 without (held.0, held.2, held.3))
    (All-contains (λ place. has_hit place ≡ true) met.1 held.1 (AllPass-from_list_all has_hit met.1 met.4) held.4)

found_none : {X : Type 0} (found : Option X) → is_some found ≡ false → found ≡ None
found_none None h = refl
found_none (Some x) h = absurd (true≢false h)

pub no_choice : (has_hit : ℕ → Bool) (tree : ExpressionTree) → is_accepted has_hit tree ≡ false → first_choice has_hit tree ≡ None
no_choice has_hit tree h = found_none (first_choice has_hit tree) (sym (any_found (list_all has_hit) (choices_of tree)) ∙ h)

pub not_accepted : (has_hit : ℕ → Bool) (tree : ExpressionTree) → first_choice has_hit tree ≡ None → is_accepted has_hit tree ≡ false
not_accepted has_hit tree h = any_found (list_all has_hit) (choices_of tree) ∙ ap is_some h

none_both : (n m : ℕ) (none : Bool) → eqb n 0 ≡ none → eqb (n + m) 0 ≡ (none && eqb m 0)
none_both n m true h = let zero : n ≡ 0 = eqb-true n 0 h in ap (λ k. eqb k 0) (let e : n + m ≡ m = omega arith in e)
none_both n m false h = let some : n ≡ 0 → ⊥ = eqb-false n 0 h in ne_eqb (n + m) 0 (λ e. some (omega arith))

pub by_sides : (has_hit : ℕ → Bool) (left right : ExpressionTree) → IsBySides has_hit left right
by_sides has_hit left right = record {
  of_and =
      accepted has_hit (both left right)
      ∙ none_both (fewest_misses has_hit left) (fewest_misses has_hit right) (eqb (fewest_misses has_hit left) 0) refl
      ∙ ap (λ l. l && eqb (fewest_misses has_hit right) 0) (sym (accepted has_hit left))
      ∙ ap (λ r. is_accepted has_hit left && r) (sym (accepted has_hit right));
  of_or = list_any-append (list_all has_hit) (choices_of left) (choices_of right);
}

pub more_hits : (before after : ℕ → Bool) (tree : ExpressionTree) → ((place : ℕ) → IsTrue (before place) → IsTrue (after place)) → IsTrue (is_accepted before tree) → IsTrue (is_accepted after tree)
more_hits before after tree kept accepts =
    let met = Any-from_list_any (list_all before) (choices_of tree) accepts in
    list_any-from_Any (list_all after) (choices_of tree) (
      met.0,
      met.1,
      met.2,
      met.3,
      list_all-from_AllPass after met.1 (All-weaker (λ place. before place ≡ true) (λ place. after place ≡ true) kept met.1 (AllPass-from_list_all before met.1 met.4)),
    )
