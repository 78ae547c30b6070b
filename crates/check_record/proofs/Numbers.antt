-- A number is read as it is written.
use Rattle.std.proofs.Common.{◌≡◌, ◌∙◌, refl, sym, ap, subst, inl, inr, ℕ, zero, suc, ◌+◌, ◌-◌, ◌*◌, ◌^◌, ◌<◌, ◌≤◌, Bool, true, false, true≢false, ◌&&◌, cond, eqb, ltb, eqb-true, eq-eqb, ne_eqb, lt-ltb, ltb-true, List, [], ◌∷◌, ◌++◌, length, get_or, drop, Option, Some, None, decimal, arith, rules}
use Rattle.std.specs.Char.{is_ascii_digit}
use Rattle.std.specs.Str.{all_ascii_digits}
use Rattle.std.proofs.lemmas.Fmt.{decimal-digits_value, decimal_digit, decimal_nonempty, digits_decimal, digits_value-decimal, first_decimal}
use Rattle.std.proofs.lemmas.Str.Parse.{IsNumeralModel, numerals_by_fold}
use Rattle.check_record.specs.Items.{IsNumber}
use Rattle.check_record.specs.Reading.{◌>>=◌, begins, begins_digit, digits_on, number_at, with_digit}
use Rattle.check_record.proofs.Steps.{and_true, bind_some, both, passes, pick, some_is}

abbrev fold_digits : ℕ → List ℕ → ℕ
fold_digits n [] = n
fold_digits n (c ∷ cs) = fold_digits (n * 10 + (c - 48)) cs

own : IsNumeralModel (λ ds. all_ascii_digits ds ≡ true) (fold_digits 0)
own = numerals_by_fold _ (search rules) fold_digits (search rules)

grows : (ds : List ℕ) (n : ℕ) → n ≤ fold_digits n ds
grows [] n = omega arith
grows (c ∷ cs) n = let more = grows cs (n * 10 + (c - 48)) in omega arith

-- ---- what is written is read

digits_again : (ds rest : List ℕ) (n : ℕ) → all_ascii_digits ds ≡ true → begins_digit rest ≡ false → fold_digits n ds < 2 ^ 64 → digits_on n (ds ++ rest) ≡ Some (fold_digits n ds, rest)
unfolding digits_on
digits_again [] [] n all ends below = refl
digits_again [] (byte ∷ rest) n all ends below = rw ends refl
digits_again (d ∷ ds) rest n all ends below =
    let parts = both (is_ascii_digit d) (all_ascii_digits ds) all in
    let more = grows ds (n * 10 + (d - 48)) in
    let small : ltb (n * 10 + (d - 48)) (2 ^ 64) ≡ true = lt-ltb _ _ (omega arith) in
    rw (parts.0, small) (digits_again ds rest (n * 10 + (d - 48)) parts.1 ends below)

positive_again : (n : ℕ) (ds rest : List ℕ) → decimal n ≡ ds → 0 < n → IsNumber n → begins_digit rest ≡ false → number_at (ds ++ rest) ≡ Some (n, rest)
unfolding number_at
positive_again n [] rest is some below ends =
    let none : 0 < length {A = ℕ} [] = subst (λ (s : List ℕ). 0 < length s) is (decimal_nonempty n below) in
    absurd (omega arith)
positive_again n (d ∷ ds) rest is some below ends =
    let digits : all_ascii_digits (d ∷ ds) ≡ true = subst (λ (s : List ℕ). all_ascii_digits s ≡ true) is (digits_decimal own n below) in
    let first : 48 < d = subst (λ (s : List ℕ). 48 < get_or s 0 0) is (first_decimal n some below) in
    let value : fold_digits 0 (d ∷ ds) ≡ n = subst (λ (s : List ℕ). fold_digits 0 s ≡ n) is (digits_value-decimal own n below) in
    let other : eqb d 48 ≡ false = ne_eqb d 48 (λ e. omega arith) in
    let parts = both (is_ascii_digit d) (all_ascii_digits ds) digits in
    let small : fold_digits 0 (d ∷ ds) < 2 ^ 64 = subst (λ (k : ℕ). k < 2 ^ 64) (sym value) below in
    rw (other, parts.0) (digits_again (d ∷ ds) rest 0 digits ends small ∙ ap (λ (k : ℕ). Some (k, rest)) value)

pub number_again : (n : ℕ) (rest : List ℕ) → IsNumber n → begins_digit rest ≡ false → number_at (decimal n ++ rest) ≡ Some (n, rest)
unfolding number_at
number_again zero rest below ends = ap (λ (s : List ℕ). number_at (s ++ rest)) (decimal_digit 0 (omega arith))
number_again (suc n) rest below ends = positive_again (suc n) (decimal (suc n)) rest refl (omega arith) below ends

-- ---- what is read is written so

digits_take : (bytes : List ℕ) (m n : ℕ) (rest : List ℕ) → IsNumber m → digits_on m bytes ≡ Some (n, rest)
    → (ds : List ℕ) × (bytes ≡ ds ++ rest) × (all_ascii_digits ds ≡ true) × (fold_digits m ds ≡ n) × (IsNumber n)
unfolding digits_on
digits_take [] m n rest below e =
    let same = some_is (m, []) (n, rest) e in
    let value = ap (λ (q : ℕ × List ℕ). q.0) same in
    ([], ap (λ (q : ℕ × List ℕ). q.1) same, refl, value, subst (λ (k : ℕ). k < 2 ^ 64) value below)
digits_take (b ∷ bytes) m n rest below e =
    elim (pick (is_ascii_digit b) (with_digit m b >>= λ next. digits_on next bytes) (Some (m, b ∷ bytes)) (Some (n, rest)) e) [
      | inl p ↦
          let s = bind_some (with_digit m b) (λ next. digits_on next bytes) (n, rest) p.1 in
          let w = passes (ltb (m * 10 + (b - 48)) (2 ^ 64)) (Some (m * 10 + (b - 48))) s.0 s.1 in
          let is : m * 10 + (b - 48) ≡ s.0 = some_is (m * 10 + (b - 48)) s.0 w.1 in
          let t = digits_take bytes s.0 n rest (subst (λ (k : ℕ). k < 2 ^ 64) is (ltb-true _ _ w.0)) s.2 in
          (b ∷ t.0, ap (λ (r : List ℕ). b ∷ r) t.1, and_true (is_ascii_digit b) (all_ascii_digits t.0) p.0 t.2, subst (λ (k : ℕ). fold_digits k t.0 ≡ n) (sym is) t.3, t.4)
      | inr p ↦
          let same = some_is (m, b ∷ bytes) (n, rest) p.1 in
          let value = ap (λ (q : ℕ × List ℕ). q.0) same in
          ([], ap (λ (q : ℕ × List ℕ). q.1) same, refl, value, subst (λ (k : ℕ). k < 2 ^ 64) value below)
    ]

-- a number and what is behind it
pub record TakesNumber (bytes : List ℕ) (n : ℕ) (rest : List ℕ) : Type 0 where
  pub parts : bytes ≡ decimal n ++ rest
  pub below : IsNumber n

positive_takes : (b : ℕ) (bytes : List ℕ) (n : ℕ) (rest : List ℕ) → eqb b 48 ≡ false → is_ascii_digit b ≡ true → digits_on 0 (b ∷ bytes) ≡ Some (n, rest) → TakesNumber (b ∷ bytes) n rest
unfolding digits_on
positive_takes b bytes n rest other digit e =
    elim (pick (is_ascii_digit b) (with_digit 0 b >>= λ next. digits_on next bytes) (Some (0, b ∷ bytes)) (Some (n, rest)) e) [
      | inl p ↦
          let s = bind_some (with_digit 0 b) (λ next. digits_on next bytes) (n, rest) p.1 in
          let w = passes (ltb (0 * 10 + (b - 48)) (2 ^ 64)) (Some (0 * 10 + (b - 48))) s.0 s.1 in
          let is : 0 * 10 + (b - 48) ≡ s.0 = some_is (0 * 10 + (b - 48)) s.0 w.1 in
          let t = digits_take bytes s.0 n rest (subst (λ (k : ℕ). k < 2 ^ 64) is (ltb-true _ _ w.0)) s.2 in
          let value : fold_digits 0 (b ∷ t.0) ≡ n = subst (λ (k : ℕ). fold_digits k t.0 ≡ n) (sym is) t.3 in
          let text : decimal (fold_digits 0 (b ∷ t.0)) ≡ b ∷ t.0 =
          decimal-digits_value own (b ∷ t.0) (and_true (is_ascii_digit b) (all_ascii_digits t.0) digit t.2) (omega arith)
          (λ z. absurd (true≢false (sym (eq-eqb b 48 z) ∙ other))) (subst (λ (k : ℕ). k < 2 ^ 64) (sym value) t.4) in
          record {
            parts = ap (λ (r : List ℕ). b ∷ r) t.1 ∙ ap (λ (s : List ℕ). s ++ rest) (sym text ∙ ap (λ (k : ℕ). decimal k) value);
            below = t.4;
          }
      | inr p ↦ absurd (true≢false (sym digit ∙ p.0))
    ]

pub number_takes : (bytes : List ℕ) (n : ℕ) (rest : List ℕ) → number_at bytes ≡ Some (n, rest) → TakesNumber bytes n rest
unfolding number_at
number_takes [] n rest e = absurd cc
number_takes (b ∷ bytes) n rest e =
    elim (pick (eqb b 48) (Some (0, bytes)) (cond (is_ascii_digit b) (digits_on 0 (b ∷ bytes)) None) (Some (n, rest)) e) [
      | inl p ↦
          let same = some_is (0, bytes) (n, rest) p.1 in
          subst (λ (q : ℕ × List ℕ). TakesNumber (b ∷ bytes) q.0 q.1) same (record {
            parts = ap (λ (k : ℕ). k ∷ bytes) (eqb-true b 48 p.0) ∙ ap (λ (s : List ℕ). s ++ bytes) (sym (decimal_digit 0 (omega arith)));
            below = omega arith;
          })
      | inr p ↦
          let g = passes (is_ascii_digit b) (digits_on 0 (b ∷ bytes)) (n, rest) p.1 in
          positive_takes b bytes n rest p.0 g.0 g.1
    ]
