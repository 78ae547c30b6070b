-- The walk over the nodes of a tree answers whether it is accepted.
use Rattle.std.proofs.Common.{◌≡◌, ◌∙◌, refl, sym, ap, ℕ, Bool, true, false, ◌&&◌, ◌||◌, List, [], ◌∷◌, ◌++◌, append_assoc, append-nil}
use Rattle.spdx_core.specs.declared.node.ExprNode.{ExprNode}
use Rattle.spdx_core.specs.declared.node.ExprNode.TheVariants.{And, Or}
use Rattle.spdx_core.specs.Grammar.{ExpressionTree, leaf, both, either}
use Rattle.spdx_core.specs.Reading.{postfix}
use Rattle.spdx_core.specs.certificates.Choices.{is_accepted}
use Rattle.spdx_core.specs.certificates.Stack.{first_of}
use Rattle.spdx_core.proofs.certificates.LawLemmas.{by_sides}
use Rattle.check_core.specs.evaluate.Answers.{answers_over}

parts : (left right : ExpressionTree) (node : ExprNode) (rest : List ExprNode) → ((postfix left ++ postfix right) ++ node ∷ []) ++ rest ≡ postfix left ++ (postfix right ++ node ∷ rest)
parts left right node rest = append_assoc (postfix left ++ postfix right) (node ∷ []) rest ∙ append_assoc (postfix left) (postfix right) (node ∷ rest)

hit_alone : (b : Bool) → b ≡ (b && true || false)
hit_alone true = refl
hit_alone false = refl

answered : (has_hit : ℕ → Bool) (tree : ExpressionTree) (answers : List Bool) (rest : List ExprNode)
    → answers_over has_hit answers (postfix tree ++ rest) ≡ answers_over has_hit (is_accepted has_hit tree ∷ answers) rest
answered has_hit (leaf place) answers rest = ap (λ b. answers_over has_hit (b ∷ answers) rest) (hit_alone (has_hit place))
answered has_hit (both left right) answers rest =
    ap (answers_over has_hit answers) (parts left right And rest)
    ∙ answered has_hit left answers (postfix right ++ And ∷ rest)
    ∙ answered has_hit right (is_accepted has_hit left ∷ answers) (And ∷ rest)
    ∙ ap (λ b. answers_over has_hit (b ∷ answers) rest) (sym (by_sides has_hit left right).of_and)
answered has_hit (either left right) answers rest =
    ap (answers_over has_hit answers) (parts left right Or rest)
    ∙ answered has_hit left answers (postfix right ++ Or ∷ rest)
    ∙ answered has_hit right (is_accepted has_hit left ∷ answers) (Or ∷ rest)
    ∙ ap (λ b. answers_over has_hit (b ∷ answers) rest) (sym (by_sides has_hit left right).of_or)

-- a whole tree
pub answered_whole : (has_hit : ℕ → Bool) (tree : ExpressionTree) → first_of false (answers_over has_hit [] (postfix tree)) ≡ is_accepted has_hit tree
answered_whole has_hit tree =
    ap (λ nodes. first_of false (answers_over has_hit [] nodes)) (sym (append-nil (postfix tree)))
    ∙ ap (first_of false) (answered has_hit tree [] [])
