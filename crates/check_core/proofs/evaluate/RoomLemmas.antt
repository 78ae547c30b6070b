-- A tree has no more terms than nodes.
use Rattle.std.proofs.Common.{◌≡◌, refl, ℕ, ◌+◌, ◌≤◌, Bool, true, false, cond, [], ◌∷◌, ◌++◌, length, Option, Some, None, arith, eqb, length-append}
use Rattle.std.specs.Option.{option_and_then}
use Rattle.spdx_core.specs.declared.node.ExprNode.{ExprNode}
use Rattle.spdx_core.specs.declared.node.ExprNode.TheVariants.{And, Or}
use Rattle.spdx_core.specs.Grammar.{ExpressionTree, leaf, both, either}
use Rattle.spdx_core.specs.Reading.{numbered_from, postfix}

one_term : (n m : ℕ) (b : Bool) → cond b (Some (n + 1)) None ≡ Some m → m ≤ n + 1
one_term n m true h = let e : n + 1 ≡ m = cc h in omega arith
one_term n m false h = absurd (cc h)

joined : (left right : ExpressionTree) (node : ExprNode) → length (postfix left ++ postfix right ++ node ∷ []) ≡ length (postfix left) + (length (postfix right) + 1)
joined left right node = simp (length-append) (omega arith)

-- the terms of both sides
sides : (n m l r whole : ℕ) (right : ExpressionTree) (found : Option ℕ) → ((k : ℕ) → found ≡ Some k → k ≤ n + l) → ((k : ℕ) → numbered_from k right ≡ Some m → m ≤ k + r)
    → whole ≡ l + (r + 1) → option_and_then (λ k. numbered_from k right) found ≡ Some m → m ≤ n + whole
sides n m l r whole right (Some k) before behind e h =
    let b : k ≤ n + l = before k refl in
    let c : m ≤ k + r = behind k h in
    omega arith
sides n m l r whole right None before behind e h = absurd (cc h)

few_from : (n m : ℕ) (tree : ExpressionTree) → numbered_from n tree ≡ Some m → m ≤ n + length (postfix tree)
few_from n m (leaf place) h = one_term n m (eqb place n) h
few_from n m (both left right) h =
    sides n m (length (postfix left)) (length (postfix right)) (length (postfix (both left right))) right (numbered_from n left)
    (λ k e. few_from n k left e) (λ k e. few_from k m right e) (joined left right And) h
few_from n m (either left right) h =
    sides n m (length (postfix left)) (length (postfix right)) (length (postfix (either left right))) right (numbered_from n left)
    (λ k e. few_from n k left e) (λ k e. few_from k m right e) (joined left right Or) h

pub few_terms : (m : ℕ) (tree : ExpressionTree) → numbered_from 0 tree ≡ Some m → m ≤ length (postfix tree)
few_terms m tree h = let few : m ≤ 0 + length (postfix tree) = few_from 0 m tree h in omega arith
