-- A list by its front, an item, and what is behind it.
use Rattle.std.proofs.Common.{◌≡◌, ◌∙◌, refl, sym, ap, ◌+◌, ◌<◌, List, [], ◌∷◌, ◌++◌, length, take, get_or, arith}
use Rattle.std.proofs.lemmas.List.{length-append}

item_behind : {X : Type 0} (front rest : List X) (one d : X) → get_or (front ++ one ∷ rest) (length front) d ≡ one
item_behind [] rest one d = refl
item_behind (x ∷ front) rest one d = item_behind front rest one d

pub is_behind : {X : Type 0} (items front rest : List X) (one : X) → front ++ one ∷ rest ≡ items → one ≡ get_or items (length front) one
is_behind {X = X} items front rest one whole = sym (ap (λ (all : List X). get_or all (length front) one) (sym whole) ∙ item_behind front rest one one)

pub lies_inside : {X : Type 0} (items front rest : List X) (one : X) → front ++ one ∷ rest ≡ items → length front < length items
lies_inside {X = X} items front rest one whole =
    let long : length (front ++ one ∷ rest) ≡ length front + length (one ∷ rest) = length-append front (one ∷ rest) in
    let same : length (front ++ one ∷ rest) ≡ length items = ap length whole in
    omega arith

pub first_ones : {X : Type 0} (front rest : List X) → take (length front) (front ++ rest) ≡ front
first_ones {X = X} [] rest = refl
first_ones {X = X} (x ∷ front) rest = ap (λ (more : List X). x ∷ more) (first_ones front rest)
