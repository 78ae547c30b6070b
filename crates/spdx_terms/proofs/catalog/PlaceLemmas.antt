-- The place that a search finds, as that of the first item that passes.
use Rattle.std.proofs.Common.{◌≡◌, ℕ, ◌<◌, ◌≤◌, nat_lt, Some, None, unwrap_or, position, Bool, true, false, not, cond, List, refl, length, arith}
use Rattle.std.proofs.lemmas.Bool.{ltb-false, ltb-true}
use Rattle.std.proofs.lemmas.List.Sums.{prefix_len-le-length}
use Rattle.std.specs.List.{position_or_len}

place_is : (n len m : ℕ) (within : Bool) → nat_lt n len ≡ within → Some m ≡ cond within (Some n) None → (m ≡ n) × (n < len)
place_is n len m true e is = let same : m ≡ n = cc in (same, ltb-true n len e)
place_is n len m false e is = absurd (cc)

-- a place that is found is that of the first
pub place_found : {X : Type 0} (p : X → Bool) (xs : List X) (m : ℕ) → Some m ≡ position p xs → (m ≡ position_or_len p xs) × (position_or_len p xs < length xs)
place_found p xs m is = place_is (position_or_len p xs) (length xs) m (nat_lt (position_or_len p xs) (length xs)) refl is

no_place : (n len : ℕ) (within : Bool) → nat_lt n len ≡ within → n ≤ len → None ≡ cond within (Some n) None → n ≡ len
no_place n len true e le is = absurd (cc)
no_place n len false e le is = omega (arith, ltb-false n len e)

-- none is found where none passes
pub none_found : {X : Type 0} (p : X → Bool) (xs : List X) → None ≡ position p xs → position_or_len p xs ≡ length xs
none_found p xs is = no_place (position_or_len p xs) (length xs) (nat_lt (position_or_len p xs) (length xs)) refl (prefix_len-le-length (λ x. not (p x)) xs) is

or_len : (n len : ℕ) (within : Bool) → nat_lt n len ≡ within → n ≤ len → unwrap_or (cond within (Some n) None) len ≡ n
or_len n len true e le = refl
or_len n len false e le = omega (arith, ltb-false n len e)

-- the place that is found, or else the length
pub found_or_len : {X : Type 0} (p : X → Bool) (xs : List X) → unwrap_or (position p xs) (length xs) ≡ position_or_len p xs
found_or_len p xs = or_len (position_or_len p xs) (length xs) (nat_lt (position_or_len p xs) (length xs)) refl (prefix_len-le-length (λ x. not (p x)) xs)

pub place_within : {X : Type 0} (p : X → Bool) (xs : List X) → position_or_len p xs ≤ length xs
place_within p xs = prefix_len-le-length (λ x. not (p x)) xs
