-- Grouped digits, read byte by byte.
use Rattle.std.proofs.Common.{◌≡◌, ℕ, Bool, true, false, not, ◌&&◌, ◌||◌, eqb, cond, List, [], ◌∷◌, length, refl, ap, sym, ◌∙◌, arith, eqb-true}
use Rattle.std.proofs.lemmas.Bool.Decides.{nat_tests}
use Rattle.std.specs.List.{list_all, slice_split, onto_first}
use Rattle.toml_subset.specs.Bytes.{underscore}
use Rattle.toml_subset.specs.Numbers.{is_digit_in, are_digits_in, are_grouped}

-- each byte is a digit, or an underscore behind a digit, and the last is a digit; a digit may be before
abbrev pub groups_after : Bool → ℕ → List ℕ → Bool
groups_after digit base [] = digit
groups_after digit base (c ∷ cs) =
    (is_digit_in base c || (digit && (eqb c underscore))) && groups_after (is_digit_in base c) base cs

abbrev parts : List ℕ → List (List ℕ)
parts = slice_split (λ c. eqb c underscore)

-- the parts behind a digit, of which the first may be empty
abbrev are_behind : ℕ → List (List ℕ) → Bool
are_behind base [] = true
are_behind base (p ∷ ps) = list_all (is_digit_in base) p && list_all (are_digits_in base) ps

some_len : (d : ℕ) (p : List ℕ) → not (eqb (length (d ∷ p)) 0) ≡ true
some_len d p = grind (arith, nat_tests)

onto_digit : (base d : ℕ) (ps : List (List ℕ)) (b : Bool) → is_digit_in base d ≡ b
    → list_all (are_digits_in base) (onto_first d ps) ≡ (b && are_behind base ps)
onto_digit base d [] true h = ap (λ x. (true && (x && true)) && true) h
onto_digit base d [] false h = ap (λ x. (true && (x && true)) && true) h
onto_digit base d (p ∷ ps) true h =
    ap (λ x. (x && (is_digit_in base d && list_all (is_digit_in base) p)) && list_all (are_digits_in base) ps) (some_len d p)
    ∙ ap (λ x. (x && list_all (is_digit_in base) p) && list_all (are_digits_in base) ps) h
onto_digit base d (p ∷ ps) false h =
    ap (λ x. (x && (is_digit_in base d && list_all (is_digit_in base) p)) && list_all (are_digits_in base) ps) (some_len d p)
    ∙ ap (λ x. (x && list_all (is_digit_in base) p) && list_all (are_digits_in base) ps) h

behind_onto : (base d : ℕ) (ps : List (List ℕ)) (b : Bool) → is_digit_in base d ≡ b → are_behind base (onto_first d ps) ≡ (b && are_behind base ps)
behind_onto base d [] true h = ap (λ x. (x && true) && true) h
behind_onto base d [] false h = ap (λ x. (x && true) && true) h
behind_onto base d (p ∷ ps) true h = ap (λ x. (x && list_all (is_digit_in base) p) && list_all (are_digits_in base) ps) h
behind_onto base d (p ∷ ps) false h = ap (λ x. (x && list_all (is_digit_in base) p) && list_all (are_digits_in base) ps) h

no_digit : (base c : ℕ) → eqb c underscore ≡ true → is_digit_in base c ≡ false
no_digit base c h = ap (is_digit_in base) (eqb-true c underscore h)

abbrev parts_by : Bool → ℕ → List ℕ → List (List ℕ)
parts_by b c cs = cond b ([] ∷ parts cs) (onto_first c (parts cs))

mutual
  behind_a_digit : (base : ℕ) (s : List ℕ) → groups_after true base s ≡ are_behind base (parts s)
  behind_a_digit base [] = refl
  behind_a_digit base (c ∷ cs) =
      elim (eqb c underscore) as (λ u. eqb c underscore ≡ u → ((is_digit_in base c || (true && u)) && groups_after (is_digit_in base c) base cs) ≡ are_behind base (parts_by u c cs)) [
        | true ↦ λ is. ap (λ d. (d || true) && groups_after d base cs) (no_digit base c is) ∙ behind_none base cs
        | false ↦ λ is.
            elim (is_digit_in base c) as (λ d. is_digit_in base c ≡ d → ((d || false) && groups_after d base cs) ≡ are_behind base (onto_first c (parts cs))) [
              | true ↦ λ digit. behind_a_digit base cs ∙ sym (behind_onto base c (parts cs) true digit)
              | false ↦ λ digit. sym (behind_onto base c (parts cs) false digit)
            ] refl
      ] refl

  behind_none : (base : ℕ) (s : List ℕ) → groups_after false base s ≡ list_all (are_digits_in base) (parts s)
  behind_none base [] = refl
  behind_none base (c ∷ cs) =
      elim (eqb c underscore) as (λ u. eqb c underscore ≡ u → ((is_digit_in base c || (false && u)) && groups_after (is_digit_in base c) base cs) ≡ list_all (are_digits_in base) (parts_by u c cs)) [
        | true ↦ λ is. ap (λ d. (d || false) && groups_after d base cs) (no_digit base c is)
        | false ↦ λ is.
            elim (is_digit_in base c) as (λ d. is_digit_in base c ≡ d → ((d || false) && groups_after d base cs) ≡ list_all (are_digits_in base) (onto_first c (parts cs))) [
              | true ↦ λ digit. behind_a_digit base cs ∙ sym (onto_digit base c (parts cs) true digit)
              | false ↦ λ digit. sym (onto_digit base c (parts cs) false digit)
            ] refl
      ] refl

pub grouped_is : (base : ℕ) (s : List ℕ) → are_grouped base s ≡ groups_after false base s
grouped_is base s = sym (behind_none base s)
