-- Spots by their places, and a list that grows by an item that may be missing.
use Rattle.std.proofs.Common.{◌≡◌, ℕ, zero, suc, ◌<◌, List, [], ◌∷◌, ◌++◌, map, length, get_or, slice_get, Option, Some, None, refl, ap, append_assoc, append-nil, arith}
use Rattle.std.specs.List.{AllByRecursion, cons_option}
use Rattle.graph_metadata.specs.declared.order.Spot.{Spot}
use Rattle.graph_metadata.specs.Order.{spot_place}

pub put-next : {B : Type 0} (made : List B) (o : Option B) (rest : List B)
    → (made ++ cons_option o []) ++ rest ≡ made ++ cons_option o rest
put-next made None rest = ap (λ all. all ++ rest) (append-nil made)
put-next made (Some x) rest = append_assoc made (x ∷ []) rest

pub place-at : (spots : List Spot) (i : ℕ) (d : Spot) → i < length spots
    → slice_get (map spot_place spots) i ≡ Some (get_or spots i d).place
place-at [] i d h = absurd (omega arith)
place-at (first ∷ rest) zero d h = refl
place-at (first ∷ rest) (suc i) d h = place-at rest i d (omega arith)

pub place-below : (n : ℕ) (spots : List Spot) (i : ℕ) (d : Spot) → AllByRecursion (λ place. place < n) (map spot_place spots)
    → i < length spots → (get_or spots i d).place < n
place-below n [] i d all h = absurd (omega arith)
place-below n (first ∷ rest) zero d all h = all.0
place-below n (first ∷ rest) (suc i) d all h = place-below n rest i d all.1 (omega arith)
