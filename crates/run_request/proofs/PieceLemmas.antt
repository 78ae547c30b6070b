-- The pieces of a text, one after the other.
use Rattle.std.proofs.Common.{◌≡◌, ◌∙◌, ◌+◌, ◌<◌, ℕ, List, [], ◌∷◌, ◌++◌, length, drop, get_or, sym, ap, append_assoc}
use Rattle.std.proofs.lemmas.List.{at_drop_more}

-- the next piece goes from what is left to what is held
pub piece_moves : (held after : List (List ℕ)) (pieces : List (List ℕ)) (n : ℕ) (piece : List ℕ) (whole : List (List ℕ))
    → (n < length pieces) × (piece ≡ get_or pieces n piece) → after ≡ held ++ piece ∷ [] → held ++ drop n pieces ≡ whole → after ++ drop (n + 1) pieces ≡ whole
piece_moves held after pieces n piece whole at grows before =
    ap (λ l. l ++ drop (n + 1) pieces) grows
    ∙ append_assoc held (piece ∷ []) (drop (n + 1) pieces)
    ∙ ap (λ p. held ++ p ∷ drop (n + 1) pieces) at.1
    ∙ sym (ap (λ l. held ++ l) (at_drop_more (λ l. l) pieces n piece at.0))
    ∙ before
