-- Walks that are written from their end back to their root, and their order: first what leads to the end, then the end.
use Rattle.std.proofs.Common.{◌≡◌, ℕ, ◌+◌, ◌<◌, ◌≤◌, ◌⊎◌, List, [], ◌∷◌, ◌++◌, length, map, reverse, refl, sym, ◌∙◌, ap, subst, inl, inr, arith}
use Rattle.std.specs.Prelude.{⊤}
use Rattle.std.proofs.lemmas.List.{length-append, map-append}
use mathlib.Core.List.{reverse-cons}

abbrev pub IsBefore : List ℕ → List ℕ → Type 0
IsBefore [] [] = ⊥
IsBefore [] (y ∷ ys) = ⊤
IsBefore (x ∷ xs) [] = ⊥
IsBefore (x ∷ xs) (y ∷ ys) = IsBefore xs ys ⊎ ((xs ≡ ys) × (x < y))

abbrev pub IsUpTo : List ℕ → List ℕ → Type 0
IsUpTo xs ys = IsBefore xs ys ⊎ (xs ≡ ys)

pub before-before : (xs ys zs : List ℕ) → IsBefore xs ys → IsBefore ys zs → IsBefore xs zs
before-before [] [] zs h g = absurd h
before-before [] (y ∷ ys) [] h g = absurd g
before-before [] (y ∷ ys) (z ∷ zs) h g = tt
before-before (x ∷ xs) [] zs h g = absurd h
before-before (x ∷ xs) (y ∷ ys) [] h g = absurd g
before-before (x ∷ xs) (y ∷ ys) (z ∷ zs) h g =
    elim h [
      | inl a ↦ elim g [
        | inl b ↦ inl (before-before xs ys zs a b)
        | inr b ↦ inl (subst (IsBefore xs) b.0 a)
      ]
      | inr a ↦ elim g [
        | inl b ↦ inl (subst (λ (walk : List ℕ). IsBefore walk zs) (sym a.0) b)
        | inr b ↦ inr (a.0 ∙ b.0, (let p : x < y = a.1 in let q : y < z = b.1 in omega arith))
      ]
    ]

pub upto-before : (xs ys zs : List ℕ) → IsUpTo xs ys → IsBefore ys zs → IsBefore xs zs
upto-before xs ys zs h g =
    elim h [
      | inl before ↦ before-before xs ys zs before g
      | inr same ↦ subst (λ (walk : List ℕ). IsBefore walk zs) (sym same) g
    ]

pub upto-upto : (xs ys zs : List ℕ) → IsUpTo xs ys → IsUpTo ys zs → IsUpTo xs zs
upto-upto xs ys zs h g =
    elim g [
      | inl before ↦ inl (upto-before xs ys zs h before)
      | inr same ↦ subst (IsUpTo xs) same h
    ]

pub upto-more : (place : ℕ) (xs ys : List ℕ) → IsUpTo xs ys → IsUpTo (place ∷ xs) (place ∷ ys)
upto-more place xs ys h =
    elim h [
      | inl before ↦ inl (inl before)
      | inr same ↦ inr (ap (λ walk. place ∷ walk) same)
    ]

pub before-long : (xs ys : List ℕ) → IsBefore xs ys → length xs ≤ length ys
before-long [] [] h = absurd h
before-long [] (y ∷ ys) h = omega arith
before-long (x ∷ xs) [] h = absurd h
before-long (x ∷ xs) (y ∷ ys) h =
    elim h [
      | inl before ↦ let shorter : length xs ≤ length ys = before-long xs ys before in omega arith
      | inr same ↦ let long : length xs ≡ length ys = ap length same.0 in omega arith
    ]

-- ---- the other way round, by what the places stand for

module _ {A : Type 0} (f : ℕ → A) where
  abbrev pub shown : List ℕ → List A
  shown [] = []
  shown (place ∷ behind) = shown behind ++ f place ∷ []

  pub shown-reverse : (walk : List ℕ) → map f (reverse walk) ≡ shown walk
  shown-reverse [] = refl
  shown-reverse (place ∷ behind) =
      ap (map f) (reverse-cons place behind)
      ∙ (map-append f (reverse behind) (place ∷ []) ∙ ap (λ list. list ++ f place ∷ []) (shown-reverse behind))

  pub length-shown : (walk : List ℕ) → length (shown walk) ≡ length walk
  length-shown [] = refl
  length-shown (place ∷ behind) =
      let more : length (shown behind ++ f place ∷ []) ≡ length (shown behind) + 1 = length-append (shown behind) (f place ∷ []) in
      let rest : length (shown behind) ≡ length behind = length-shown behind in
      omega arith
