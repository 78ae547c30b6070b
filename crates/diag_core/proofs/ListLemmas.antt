-- A list whose items are replaced in order.
use Rattle.std.proofs.Common.{◌≡◌, ℕ, zero, suc, ◌+◌, ◌<◌, List, [], ◌∷◌, ◌++◌, length, map, take, drop, get_or, set, refl, sym, ap, ◌∙◌, add-one, arith}

set-mapped_front : {A : Type 0} (f : A → A) (xs : List A) (i : ℕ) (d : A) → i < length xs
    → set (map f (take i xs) ++ drop i xs) i (f (get_or (map f (take i xs) ++ drop i xs) i d)) ≡ map f (take (suc i) xs) ++ drop (suc i) xs
set-mapped_front f [] i d within = absurd (omega arith)
set-mapped_front f (x ∷ xs) zero d within = refl
set-mapped_front f (x ∷ xs) (suc i) d within = ap (λ rest. f x ∷ rest) (set-mapped_front f xs i d (omega arith))

-- where the items before a place are mapped, and that at the place is mapped now
pub mapped_front_more : {A : Type 0} (f : A → A) (xs ys : List A) (i : ℕ) (d new : A) → i < length xs → ys ≡ map f (take i xs) ++ drop i xs → new ≡ f (get_or ys i d)
    → set ys i new ≡ map f (take (i + 1) xs) ++ drop (i + 1) xs
mapped_front_more f xs ys i d new within front e =
    ap (set ys i) e
    ∙ ap (λ zs. set zs i (f (get_or zs i d))) front
    ∙ set-mapped_front f xs i d within
    ∙ ap (λ n. map f (take n xs) ++ drop n xs) (sym (add-one i))
