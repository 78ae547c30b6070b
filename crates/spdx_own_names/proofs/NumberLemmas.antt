-- From std's reading of numbers, and from a table of marks, to their definitions.
use Rattle.std.proofs.Common.{◌≡◌, ◌<◌, ◌^◌, ◌&&◌, nat_lt, ℕ, Bool, true, false, cond, not, List, [], ◌∷◌, length, map, find, Some, None, Result, Ok, Err, refl, sym, ap, ◌∙◌, lt-ltb, ltb-true}
use Rattle.std.specs.Char.{is_ascii_digit}
use Rattle.std.specs.List.{list_all, join_with_byte}
use Rattle.std.specs.Map.{lookup}
use Rattle.std.specs.Result.{result_ok, OkIff}
use Rattle.std.specs.Str.{bytes_eq}
use Rattle.std.specs.Str.Parse.{ParsesUnsigned, digits_value}
use Rattle.std.proofs.Common.{rules, arith}
use Rattle.std.proofs.lemmas.Bool.{and_parts}
use Rattle.std.proofs.lemmas.Str.Parse.{IsNumeralModel, numerals_by_value, parse_digits}
use Rattle.spdx_terms.specs.catalog.TextWords.{has_some}
use Rattle.spdx_own_names.specs.Form.{MarksSet, decimal_of, has_leading_zero, is_decimal, marks_of, marks_words, some_marks}

abbrev AreDigits : List ℕ → Type 0
AreDigits word = list_all is_ascii_digit word ≡ true

own : IsNumeralModel AreDigits (digits_value 10)
own = numerals_by_value AreDigits (search rules)

-- the number that digits were read as, where it is below 2 ^ 32
number_is : {E : Type 0} (r : Result ℕ E) (some : Type 0) (value : ℕ) → some → OkIff r (some × (value < 2 ^ 32)) value → result_ok r ≡ cond (nat_lt value (2 ^ 32)) (Some value) None
number_is (Ok number) some value there read = rw (lt-ltb value (2 ^ 32) read.0.1) (ap Some read.1)
number_is (Err error) some value there refused = by (nat_lt value (2 ^ 32)) refl
  where
    by : (b : Bool) → nat_lt value (2 ^ 32) ≡ b → None ≡ cond b (Some value) None
    by false e = refl
    by true e = absurd (refused (there, ltb-true value (2 ^ 32) e))

some_digits : (word : List ℕ) → has_some word ≡ true → 0 < length word
some_digits [] is = absurd (cc)
some_digits (digit ∷ digits) is = omega arith

pub decimal_read : {E : Type 0} (word : List ℕ) (r : Result ℕ E) → is_decimal word ≡ true → ParsesUnsigned 32 10 word r → result_ok r ≡ decimal_of word
unfolding decimal_of
decimal_read word r is read =
    let outer = and_parts (has_some word && list_all is_ascii_digit word) (not (has_leading_zero word)) is in
    let inner = and_parts (has_some word) (list_all is_ascii_digit word) outer.0 in
    number_is r (0 < length word) (digits_value 10 word) (some_digits word inner.0) (parse_digits own 32 word r read inner.1)
    ∙ ap (λ b. cond (b && nat_lt (digits_value 10 word) (2 ^ 32)) (Some (digits_value 10 word)) None) (sym is)

pub decimal_none : (word : List ℕ) → is_decimal word ≡ false → decimal_of word ≡ None
unfolding decimal_of
decimal_none word is = ap (λ b. cond (b && nat_lt (digits_value 10 word) (2 ^ 32)) (Some (digits_value 10 word)) None) is

-- ---- marks

looked_up : (text : List ℕ) (listed : List MarksSet) → lookup (bytes_eq text) (map (λ (marks : MarksSet). (join_with_byte 32 (marks_words marks), marks)) listed) ≡ find (λ marks. bytes_eq text (join_with_byte 32 (marks_words marks))) listed
looked_up text [] = refl
looked_up text (marks ∷ listed) = ap (cond (bytes_eq text (join_with_byte 32 (marks_words marks))) (Some marks)) (looked_up text listed)

-- a look-up by the texts of marks
pub marks_found : (text : List ℕ) → lookup (bytes_eq text) (map (λ (marks : MarksSet). (join_with_byte 32 (marks_words marks), marks)) some_marks) ≡ marks_of text
unfolding marks_of
marks_found text = looked_up text some_marks
