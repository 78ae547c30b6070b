-- What is found at a first place.
use Rattle.std.proofs.Common.{◌≡◌, ◌∙◌, ℕ, suc, ◌+◌, Bool, true, false, not, cond, List, [], ◌∷◌, length, map, find, slice_get, Option, Some, None, refl, sym, ap, arith}
use Rattle.std.specs.Prelude.{nat_lt, option_copied, position}
use Rattle.std.specs.Borrow.{Bor}
use Rattle.std.specs.Slice.{IsItemAt}
use Rattle.std.specs.List.{position_or_len}
use Rattle.std.proofs.lemmas.Bool.{ltb-false, ltb-true}
use Rattle.std.proofs.lemmas.Option.{cond_some, slice_get_past, slice_get_read}

get_next : {A : Type 0} (x : A) (xs : List A) (n : ℕ) → slice_get (x ∷ xs) (1 + n) ≡ slice_get xs n
get_next x xs n = let next : 1 + n ≡ suc n = omega arith in ap (slice_get (x ∷ xs)) next

found_at : {A B : Type 0} (f : A → B) (p : B → Bool) (xs : List A) → slice_get xs (position_or_len p (map f xs)) ≡ find (λ x. p (f x)) xs
found_at f p [] = refl
found_at f p (x ∷ xs) =
    elim (p (f x)) as (λ b. slice_get (x ∷ xs) (cond (not b) (1 + position_or_len p (map f xs)) 0) ≡ cond b (Some x) (find (λ x. p (f x)) xs)) [
      | true ↦ refl
      | false ↦ get_next x xs (position_or_len p (map f xs)) ∙ found_at f p xs
    ]

found_here : {A : Type 0} (p : A → Bool) (xs : List A) → slice_get xs (position_or_len p xs) ≡ find p xs
found_here p [] = refl
found_here p (x ∷ xs) =
    elim (p x) as (λ b. slice_get (x ∷ xs) (cond (not b) (1 + position_or_len p xs) 0) ≡ cond b (Some x) (find p xs)) [
      | true ↦ refl
      | false ↦ get_next x xs (position_or_len p xs) ∙ found_here p xs
    ]

-- a place is that of the first one
place_is : {B : Type 0} (p : B → Bool) (ys : List B) (place : ℕ) → position p ys ≡ Some place → position_or_len p ys ≡ place
place_is p ys place is = (cond_some (nat_lt (position_or_len p ys) (length ys)) (position_or_len p ys) place is).1

-- no place: it is behind all
past_all : {B : Type 0} (p : B → Bool) (ys : List B) → position p ys ≡ None → nat_lt (position_or_len p ys) (length ys) ≡ false
past_all p ys none = by (nat_lt (position_or_len p ys) (length ys)) none
  where
    by : (b : Bool) → cond b (Some (position_or_len p ys)) None ≡ None → b ≡ false
    by true never = absurd (cc)
    by false never = refl

length-map : {A B : Type 0} (f : A → B) (xs : List A) → length (map f xs) ≡ length xs
length-map f [] = refl
length-map f (x ∷ xs) = ap suc (length-map f xs)

pub place_found : {A : Type 0} (p : A → Bool) (xs : List A) (place : ℕ) → position p xs ≡ Some place → slice_get xs place ≡ find p xs
place_found p xs place is = sym (ap (slice_get xs) (place_is p xs place is)) ∙ found_here p xs

pub none_found : {A : Type 0} (p : A → Bool) (xs : List A) → position p xs ≡ None → find p xs ≡ None
none_found p xs none = sym (found_here p xs) ∙ slice_get_past xs (position_or_len p xs) (ltb-false (position_or_len p xs) (length xs) (past_all p xs none))

pub named_found : {A B : Type 0} (f : A → B) (p : B → Bool) (xs : List A) (names : List B) (place : ℕ) → names ≡ map f xs → position p names ≡ Some place → slice_get xs place ≡ find (λ x. p (f x)) xs
named_found f p xs names place are is = sym (ap (slice_get xs) (ap (position_or_len p) (sym are) ∙ place_is p names place is)) ∙ found_at f p xs

pub none_named : {A B : Type 0} (f : A → B) (p : B → Bool) (xs : List A) (names : List B) → names ≡ map f xs → position p names ≡ None → find (λ x. p (f x)) xs ≡ None
none_named f p xs names are none =
    sym (found_at f p xs)
    ∙ slice_get_past xs (position_or_len p (map f xs))
    (let past = ltb-false (position_or_len p (map f xs)) (length (map f xs)) (past_all p (map f xs) (ap (position p) (sym are) ∙ none)) in
    let same = length-map f xs in
    omega (arith, past, same))

-- what is at a place
pub item_at : {A : Type 0} (xs : List A) (place : ℕ) (item : Option (Bor A)) → IsItemAt xs place item → option_copied item ≡ slice_get xs place
item_at xs place None is = sym (slice_get_past xs place (ltb-false place (length xs) (sym is.0)))
item_at xs place (Some item) is = sym (slice_get_read xs (length xs) place item.now refl (ltb-true place (length xs) (sym is.0)) is.1)
