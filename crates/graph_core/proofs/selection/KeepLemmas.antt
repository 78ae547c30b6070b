-- One crate more is kept, and the kinds of one.
use Rattle.std.proofs.Common.{◌≡◌, ℕ, suc, ◌+◌, ◌⊎◌, Bool, true, false, List, [], ◌∷◌, ◌++◌, length, refl, ◌∙◌, ap, inl, inr, add-one, append_assoc, arith}
use Rattle.graph_core.specs.declared.edge.Kinds.{Kinds}
use Rattle.graph_core.specs.selection.Places.{items_with, marked_items, kinds_at, kinds_kept}

pub no-items : {A : Type 0} (xs : List A) → length xs ≡ 0 → xs ≡ []
no-items [] e = refl
no-items (x ∷ xs) e = absurd (omega arith)

-- ---- items that are marked

pub kept-next : {A : Type 0} (done : List A) (x : A) (rest : List A) (mark : Bool) (marks : List Bool)
    → items_with done x mark ++ marked_items rest marks ≡ done ++ marked_items (x ∷ rest) (mark ∷ marks)
kept-next done x rest true marks = append_assoc done (x ∷ []) (marked_items rest marks)
kept-next done x rest false marks = refl

kept-none : {A : Type 0} (xs : List A) → marked_items xs [] ≡ []
kept-none [] = refl
kept-none (x ∷ xs) = refl

pub kept-end : {A : Type 0} (xs : List A) (marks : List Bool) → (xs ≡ []) ⊎ (marks ≡ []) → marked_items xs marks ≡ []
kept-end xs marks ends =
    elim ends [
      | inl none ↦ ap (λ left. marked_items left marks) none
      | inr none ↦ ap (marked_items xs) none ∙ kept-none xs
    ]

-- ---- kinds of places that are marked

module _ (normal dev build : List Bool) where
  abbrev kinds-from : ℕ → List Bool → List Kinds
  kinds-from place marks = kinds_kept normal dev build place marks

  pub kinds-next : (done : List Kinds) (place : ℕ) (mark : Bool) (marks : List Bool)
      → items_with done (kinds_at normal dev build place) mark ++ kinds_kept normal dev build (place + 1) marks
      ≡ done ++ kinds_kept normal dev build place (mark ∷ marks)
  kinds-next done place true marks =
      ap (λ n. (done ++ kinds_at normal dev build place ∷ []) ++ kinds-from n marks) (add-one place)
      ∙ append_assoc done (kinds_at normal dev build place ∷ []) (kinds-from (suc place) marks)
  kinds-next done place false marks = ap (λ n. done ++ kinds-from n marks) (add-one place)
