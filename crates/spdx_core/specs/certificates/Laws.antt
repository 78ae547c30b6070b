-- What holds of all expressions, whichever places have a hit.
use Rattle.std.specs.Prelude.{◌≡◌, ◌↔◌, ℕ, Bool, IsTrue, false, ◌&&◌, ◌||◌, List, None, All}
use Rattle.spdx_core.specs.Grammar.{ExpressionTree, both, either}
use Rattle.spdx_core.specs.certificates.Choices.{choices_of, is_accepted, first_choice, MeetEach}

-- no places without a hit meet every choice of an accepted tree
abbrev pub AcceptedHasNoBlocks : Type 0
AcceptedHasNoBlocks = (has_hit : ℕ → Bool) (tree : ExpressionTree) (places : List ℕ) → IsTrue (is_accepted has_hit tree)
    → All (λ place. has_hit place ≡ false) places → MeetEach places (choices_of tree) → ⊥

-- a tree has no first choice exactly where it is not accepted
abbrev pub RejectedHasNoChoice : Type 0
RejectedHasNoChoice =
    (has_hit : ℕ → Bool) (tree : ExpressionTree)
    → (first_choice has_hit tree ≡ None) ↔ (is_accepted has_hit tree ≡ false)

-- an AND is accepted where both of its sides are, an OR where one of them is
pub record IsBySides (has_hit : ℕ → Bool) (left right : ExpressionTree) : Type 0 where
  pub of_and : is_accepted has_hit (both left right) ≡ (is_accepted has_hit left && is_accepted has_hit right)
  pub of_or : is_accepted has_hit (either left right) ≡ (is_accepted has_hit left || is_accepted has_hit right)

abbrev pub AcceptedBySides : Type 0
AcceptedBySides = (has_hit : ℕ → Bool) (left right : ExpressionTree) → IsBySides has_hit left right

-- where each place that had a hit still has one, an accepted tree is still accepted
abbrev pub MoreHitsNeverReject : Type 0
MoreHitsNeverReject =
    (before after : ℕ → Bool) (tree : ExpressionTree) → ((place : ℕ) → IsTrue (before place) → IsTrue (after place))
    → IsTrue (is_accepted before tree) → IsTrue (is_accepted after tree)
