-- From std's reading of numbers to the definition by tests.
use Rattle.std.proofs.Common.{◌≡◌, ◌^◌, ◌&&◌, ℕ, Bool, true, false, true≢false, List, [], ◌∷◌, length, refl, sym, None, Result, Ok, Err, lt-ltb, ltb-true}
use Rattle.std.specs.Prelude.{nat_lt}
use Rattle.std.specs.List.{list_all}
use Rattle.std.specs.Char.{digit_value, is_digit}
use Rattle.std.specs.Result.{result_ok}
use Rattle.std.specs.Str.Parse.{AllDigits, ParsesUnsigned, digits_value, without_leading_plus}
use Rattle.run_request.specs.Number.{number_of, is_numeral}

both : (a b : Bool) → (a && b) ≡ true → (a ≡ true) × (b ≡ true)
both true b e = (refl, e)
both false b e = absurd (true≢false (sym e))

digits_pass : (digits : List ℕ) → AllDigits 10 digits → list_all (λ byte. is_digit byte 10) digits ≡ true
digits_pass [] all = refl
digits_pass (digit ∷ digits) all = rw (lt-ltb (digit_value digit) 10 all.0) (digits_pass digits all.1)

digits_from : (digits : List ℕ) → list_all (λ byte. is_digit byte 10) digits ≡ true → AllDigits 10 digits
digits_from [] pass = tt
digits_from (digit ∷ digits) pass =
    let parts = both _ _ pass in
    (ltb-true _ _ parts.0, digits_from digits parts.1)

-- what std reads from a word is the number that the word writes
pub number_read : {E : Type 0} (word : List ℕ) (r : Result ℕ E) → ParsesUnsigned 32 10 word r → result_ok r ≡ number_of word
number_read word (Ok number) read =
    let digits = without_leading_plus word in
    rw (lt-ltb 0 (length digits) read.0.0.0, digits_pass digits read.0.0.1, lt-ltb (digits_value 10 digits) (2 ^ 32) read.0.1) (rw read.1 refl)
number_read word (Err error) refused = go (is_numeral (without_leading_plus word) && nat_lt (digits_value 10 (without_leading_plus word)) (2 ^ 32)) refl
  where
    go : (b : Bool) → (is_numeral (without_leading_plus word) && nat_lt (digits_value 10 (without_leading_plus word)) (2 ^ 32)) ≡ b → None ≡ number_of word
    go false t = rw t refl
    go true t =
        let outer = both _ _ t in
        let inner = both _ _ outer.0 in
        absurd (refused ((ltb-true _ _ inner.0, digits_from (without_leading_plus word) inner.1), ltb-true _ _ outer.1))
