-- Two lists, each item of the one beside an item of the other.
use Rattle.std.proofs.Common.{◌≡◌, List, [], ◌∷◌, map, refl, ap₂}
use Rattle.std.proofs.lemmas.List.Elements.{All-cons, All-nil}
use Rattle.std.specs.List.{All, AllZip}

-- what follows of each item of the first one
pub all_left : {A B : Type 0} (R : A → B → Type 0) (P : A → Type 0) → ((x : A) (y : B) → R x y → P x) → (xs : List A) (ys : List B) → AllZip R xs ys → All P xs
all_left R P follows [] ys both = All-nil P
all_left R P follows (x ∷ xs) [] both = absurd both
all_left R P follows (x ∷ xs) (y ∷ ys) both = All-cons P x xs (follows x y both.0) (all_left R P follows xs ys both.1)

-- what is the same of each pair
pub same_maps : {A B C : Type 0} (R : A → B → Type 0) (f : A → C) (g : B → C) → ((x : A) (y : B) → R x y → f x ≡ g y) → (xs : List A) (ys : List B) → AllZip R xs ys → map f xs ≡ map g ys
same_maps R f g same [] [] both = refl
same_maps R f g same [] (y ∷ ys) both = absurd both
same_maps R f g same (x ∷ xs) [] both = absurd both
same_maps {A} {B} {C} R f g same (x ∷ xs) (y ∷ ys) both = ap₂ (λ (first : C) (rest : List C). first ∷ rest) (same x y both.0) (same_maps R f g same xs ys both.1)

-- what each pair keeps
pub zip_weaker : {A B : Type 0} (R S : A → B → Type 0) → ((x : A) (y : B) → R x y → S x y) → (xs : List A) (ys : List B) → AllZip R xs ys → AllZip S xs ys
zip_weaker R S weaker [] [] both = tt
zip_weaker R S weaker [] (y ∷ ys) both = absurd both
zip_weaker R S weaker (x ∷ xs) [] both = absurd both
zip_weaker R S weaker (x ∷ xs) (y ∷ ys) both = (weaker x y both.0, zip_weaker R S weaker xs ys both.1)
