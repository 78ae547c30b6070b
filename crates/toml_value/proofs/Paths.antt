-- Paths of keys and places, part by part.
use Rattle.std.proofs.Common.{◌≡◌, ◌≢◌, ℕ, suc, ◌+◌, ◌<◌, Bool, true, false, not, cond, eqb, List, [], ◌∷◌, length, Option, Some, None, option_and_then, refl, ap, arith}
use Rattle.std.proofs.lemmas.Bool.Decides.{nat_tests}
use Rattle.std.proofs.lemmas.List.Splits.{slice_split_first}
use Rattle.std.specs.List.{slice_split, onto_first, position_or_len, before_first, after_first}
use Rattle.toml_subset.specs.Data.{Toml}
use Rattle.toml_value.specs.Lookup.{step_to, steps_to, pointed_at}

abbrev pub is_slash : ℕ → Bool
is_slash b = eqb b 47

-- the first part and the rest
pub parts_first : (s part more : List ℕ) → position_or_len is_slash s < length s → part ≡ before_first is_slash s → more ≡ after_first is_slash s
    → slice_split is_slash s ≡ part ∷ slice_split is_slash more
parts_first s part more cut front back = rw (front, back) (slice_split_first is_slash s 0 cut)

-- with no slash there is one part
pub parts_only : (s : List ℕ) → position_or_len is_slash s ≡ length s → slice_split is_slash s ≡ s ∷ []
parts_only [] none = refl
parts_only (c ∷ cs) none =
    elim (eqb c 47) as (λ b. cond (not b) (1 + position_or_len is_slash cs) 0 ≡ suc (length cs)
    → cond b ([] ∷ slice_split is_slash cs) (onto_first c (slice_split is_slash cs)) ≡ (c ∷ cs) ∷ []) [
      | true ↦ λ bad. absurd (omega arith)
      | false ↦ λ same. ap (onto_first c) (parts_only cs (omega arith))
    ] none

some_again : (o : Option Toml) → option_and_then (steps_to []) o ≡ o
some_again None = refl
some_again (Some x) = refl

pub last_step : (part : List ℕ) (value : Toml) → steps_to (part ∷ []) value ≡ step_to part value.content
last_step part value = some_again (step_to part value.content)

-- a path that begins with no slash leads nowhere
pub pointed_nowhere : (path : List ℕ) (value : Toml) → length path ≢ 0 → ((rest : List ℕ) → path ≢ 47 ∷ rest) → pointed_at path value ≡ None
pointed_nowhere [] value some other = absurd (some refl)
pointed_nowhere (c ∷ cs) value some other =
    let differs : c ≢ 47 = λ same. other cs (ap (λ x. x ∷ cs) same) in
    let no : eqb c 47 ≡ false = grind (arith, nat_tests) in
    ap (λ (b : Bool). cond b (steps_to (slice_split is_slash cs) value) None) no
