-- Escapes, and where they end.
use Rattle.std.proofs.Common.{◌≡◌, ℕ, zero, suc, ◌+◌, ◌-◌, ◌<◌, ◌≤◌, ◌⊎◌, inl, inr, ⊎_elim, Bool, true, false, cond, eqb, nat_lt, nat_le, unwrap_or, ◌&&◌, ◌||◌, List, [], ◌∷◌, length, get_or, slice_get, take, drop, Option, Some, None, option_map, true≢false, refl, ap, sym, subst, ◌∙◌, eqb-true, eq-eqb, arith, length-drop}
use Rattle.std.proofs.lemmas.Bool.Decides.{nat_tests}
use Rattle.std.proofs.lemmas.List.Sums.{prefix_len-le-length}
use Rattle.std.proofs.lemmas.Str.{IsCharBoundary-after_ascii}
use Rattle.std.specs.List.{prefix_len, list_all}
use Rattle.std.specs.Option.{SomeIff}
use Rattle.std.specs.Prelude.{IsTrue, encode_utf8}
use Rattle.std.specs.Str.{IsCharBoundary, IsUtf8}
use Rattle.toml_subset.specs.Bytes.{quote, apostrophe, is_blank, line_feed, carriage_return, is_letter, is_digit}
use Rattle.toml_subset.specs.Numbers.{is_digit_in, digit_value, count}
use Rattle.toml_subset.specs.Places.{stands, after_blanks, lines_over, after_lines_of, after_white, behind_line_end}
use Rattle.toml_subset.specs.StringViews.{EndsOnBorder, GoesOn}
use Rattle.toml_subset.specs.declared.strings.Special.{Special}
use Rattle.toml_subset.specs.declared.strings.Special.TheVariants.{Closing, Escape, Broken}
use Rattle.toml_subset.specs.Strings.{Quoting, basic, literal, long_basic, long_literal, is_scalar, scalar_of, letter_escape, marks_in_row, opening, opening_of}
use Rattle.toml_subset.proofs.PlainRuns.{prefix_take}
use Rattle.toml_subset.proofs.Runs.{byte_passes, run_end_passes}
use Rattle.toml_subset.proofs.Law.Basics.{is_some, if_is}
use Rattle.toml_subset.proofs.Law.Fronts.{and_last}

-- digits

length_take : (n : ℕ) (s : List ℕ) → length (take n s) ≤ n
length_take zero s = omega arith
length_take (suc n) [] = omega arith
length_take (suc n) (c ∷ cs) = let rest = length_take n cs in omega arith

all_of_prefix : (p : ℕ → Bool) (s : List ℕ) → prefix_len p s ≡ length s → list_all p s ≡ true
all_of_prefix p [] e = refl
all_of_prefix p (c ∷ cs) e =
    ⊎_elim (λ h. let rest = h.1 in ap (λ b. b && list_all p cs) h.0 ∙ all_of_prefix p cs (omega arith)) (λ h. let none = h.1 in absurd (omega arith))
    (if_is (p c) (1 + prefix_len p cs) 0 (length (c ∷ cs)) e)

prefix_of_all : (p : ℕ → Bool) (s : List ℕ) → list_all p s ≡ true → prefix_len p s ≡ length s
prefix_of_all p [] e = refl
prefix_of_all p (c ∷ cs) e =
    elim (p c) as (λ b. p c ≡ b → (b && list_all p cs) ≡ true → cond b (1 + prefix_len p cs) 0 ≡ length (c ∷ cs)) [
      | true ↦ λ is all. let rest = prefix_of_all p cs all in omega arith
      | false ↦ λ is all. absurd (true≢false (sym all))
    ] refl e

abbrev digits_of : ℕ → List ℕ → List ℕ
digits_of digits s = take digits s

abbrev are_digits : ℕ → List ℕ → Bool
are_digits digits t = eqb (length t) digits && list_all (is_digit_in 16) t

are_digits_is : (digits : ℕ) (s : List ℕ) → prefix_len (is_digit_in 16) (take digits s) ≡ digits → are_digits digits (take digits s) ≡ true
are_digits_is digits s e =
    let t = take digits s in
    let most = length_take digits s in
    let least = prefix_len-le-length (is_digit_in 16) t in
    let size : length t ≡ digits = omega arith in
    ap (λ b. b && list_all (is_digit_in 16) t) (eq-eqb (length t) digits size) ∙ all_of_prefix (is_digit_in 16) t (e ∙ sym size)

not_so : (b : Bool) → (b ≡ true → ⊥) → b ≡ false
not_so true h = absurd (h refl)
not_so false h = refl

abbrev scalar_by : Bool → Bool → ℕ → Option (List ℕ)
scalar_by a b n = cond (a && b) (Some (encode_utf8 n)) None

pub scalar_found : (digits : ℕ) (s : List ℕ) (o : Option ℕ) → prefix_len (is_digit_in 16) (take digits s) ≡ digits
    → SomeIff o (IsTrue (is_scalar (count 16 (take digits s)))) (count 16 (take digits s)) → option_map encode_utf8 o ≡ scalar_of digits (take digits s)
scalar_found digits s (Some c) e is =
    sym (ap (λ a. scalar_by a (is_scalar (count 16 (take digits s))) (count 16 (take digits s))) (are_digits_is digits s e)
    ∙ ap (λ b. scalar_by true b (count 16 (take digits s))) is.0 ∙ ap (λ n. Some (encode_utf8 n)) (sym is.1))
scalar_found digits s None e is =
    sym (ap (λ a. scalar_by a (is_scalar (count 16 (take digits s))) (count 16 (take digits s))) (are_digits_is digits s e)
    ∙ ap (λ b. scalar_by true b (count 16 (take digits s))) (not_so (is_scalar (count 16 (take digits s))) is))

and_parts : (a b : Bool) → (a && b) ≡ true → (a ≡ true) × (b ≡ true)
and_parts true b h = (refl, h)
and_parts false b h = absurd (true≢false (sym h))

digits_are : (digits : ℕ) (s : List ℕ) → are_digits digits (take digits s) ≡ true → prefix_len (is_digit_in 16) (take digits s) ≡ digits
digits_are digits s h =
    let both = and_parts (eqb (length (take digits s)) digits) (list_all (is_digit_in 16) (take digits s)) h in
    prefix_of_all (is_digit_in 16) (take digits s) both.1 ∙ eqb-true (length (take digits s)) digits both.0

pub scalar_missing : (digits : ℕ) (s : List ℕ) → (prefix_len (is_digit_in 16) (take digits s) ≡ digits → ⊥) → None ≡ scalar_of digits (take digits s)
scalar_missing digits s other =
    sym (ap (λ a. scalar_by a (is_scalar (count 16 (take digits s))) (count 16 (take digits s))) (not_so (are_digits digits (take digits s)) (λ h. other (digits_are digits s h))))

pub letter_ascii : (c : ℕ) → is_letter c ≡ true → c < 128
letter_ascii c h = grind (arith, nat_tests)

pub digit_ascii : (c : ℕ) → is_digit c ≡ true → c < 128
digit_ascii c h = grind (arith, nat_tests)

or_either : (a b : Bool) → (a || b) ≡ true → (a ≡ true) ⊎ (b ≡ true)
or_either true b h = inl refl
or_either false b h = inr h

some_if : (b : Bool) (x y : List ℕ) → cond b (Some x) None ≡ Some y → b ≡ true
some_if true x y e = refl
some_if false x y e = absurd (cc)

hex_ascii : (c : ℕ) → is_digit_in 16 c ≡ true → c < 128
hex_ascii c h =
    ⊎_elim (digit_ascii c) (letter_ascii c) (or_either (is_digit c) (is_letter c) (and_parts (is_digit c || is_letter c) (nat_lt (digit_value c) 16) h).0)

-- an escape of digits ends behind the last of them
pub scalar_border : (text : List ℕ) → IsUtf8 text → (i digits : ℕ) → 0 < digits → (bytes : List ℕ) → scalar_of digits (take digits (drop i text)) ≡ Some bytes
    → IsCharBoundary text (i + digits)
scalar_border text utf8 i digits some bytes e =
    let t = take digits (drop i text) in
    let test = and_parts (are_digits digits t) (is_scalar (count 16 t)) (some_if (are_digits digits t && is_scalar (count 16 t)) (encode_utf8 (count 16 t)) bytes e) in
    let whole = digits_are digits (drop i text) test.0 in
    let most = prefix_take (is_digit_in 16) digits (drop i text) in
    let least = prefix_len-le-length (is_digit_in 16) (drop i text) in
    let k = i + digits - 1 in
    let rest = length-drop i text in
    let inside : k < length text = omega arith in
    let ascii = hex_ascii (get_or text k 0) (run_end_passes (is_digit_in 16) text i k (omega arith) (omega arith)) in
    let back : k + 1 ≡ i + digits = omega arith in
    subst (IsCharBoundary text) back (IsCharBoundary-after_ascii text k utf8 inside ascii)

-- white space ends where a character begins

blank_ascii : (c : ℕ) → is_blank c ≡ true → c < 128
blank_ascii c h = grind (arith, nat_tests)

blanks_border : (text : List ℕ) → IsUtf8 text → (i : ℕ) → IsCharBoundary text i → IsCharBoundary text (after_blanks text i)
blanks_border text utf8 i at =
    let size = prefix_len is_blank (drop i text) in
    elim (eqb size 0) as (λ b. eqb size 0 ≡ b → IsCharBoundary text (after_blanks text i)) [
      | true ↦ λ is. let none = eqb-true size 0 is in let same : i ≡ after_blanks text i = omega arith in subst (IsCharBoundary text) same at
      | false ↦ λ is.
          let some : 0 < size = grind (arith, nat_tests) in
          let k = i + size - 1 in
          let least = prefix_len-le-length is_blank (drop i text) in
          let rest = length-drop i text in
          let inside : k < length text = omega arith in
          let ascii = blank_ascii (get_or text k 0) (run_end_passes is_blank text i k (omega arith) (omega arith)) in
          let back : k + 1 ≡ after_blanks text i = omega arith in
          subst (IsCharBoundary text) back (IsCharBoundary-after_ascii text k utf8 inside ascii)
    ] refl

line_feed_border : (text : List ℕ) → IsUtf8 text → (i : ℕ) → stands text i line_feed ≡ true → IsCharBoundary text (i + 1)
line_feed_border text utf8 i h =
    let here = byte_passes (λ b. eqb b line_feed) text i h in
    let same = eqb-true (get_or text i 0) line_feed here.1 in
    IsCharBoundary-after_ascii text i utf8 here.0 (omega arith)

line_end_border : (text : List ℕ) → IsUtf8 text → (i next : ℕ) → behind_line_end text i ≡ Some next → IsCharBoundary text next
line_end_border text utf8 i next e =
    ⊎_elim (λ h. subst (IsCharBoundary text) (is_some (i + 1) next h.1) (line_feed_border text utf8 i h.0))
    (λ h.
    ⊎_elim
    (λ k.
    let two : i + 1 + 1 ≡ i + 2 = omega arith in
    subst (IsCharBoundary text) (two ∙ is_some (i + 2) next k.1)
    (line_feed_border text utf8 (i + 1) (and_last (stands text i carriage_return) (stands text (i + 1) line_feed) k.0)))
    (λ k. let none = k.1 in absurd (cc))
    (if_is (stands text i carriage_return && stands text (i + 1) line_feed) (Some (i + 2)) None (Some next) h.1))
    (if_is (stands text i line_feed) (Some (i + 1)) (cond (stands text i carriage_return && stands text (i + 1) line_feed) (Some (i + 2)) None) (Some next) e)

lines_border : (text : List ℕ) → IsUtf8 text → (n i : ℕ) → IsCharBoundary text i → IsCharBoundary text (lines_over after_blanks n text i)
lines_border text utf8 zero i at = at
lines_border text utf8 (suc n) i at =
    elim (behind_line_end text (after_blanks text i)) as (λ o. behind_line_end text (after_blanks text i) ≡ o
    → IsCharBoundary text (elim o [ Some next ↦ lines_over after_blanks n text next | None ↦ i ])) [
      | Some next ↦ λ is. lines_border text utf8 n next (line_end_border text utf8 (after_blanks text i) next is)
      | None ↦ λ is. at
    ] refl

pub white_border : (text : List ℕ) → IsUtf8 text → (i : ℕ) → IsCharBoundary text i → IsCharBoundary text (after_white text i)
white_border text utf8 i at = blanks_border text utf8 (after_lines_of after_blanks text i) (lines_border text utf8 (length text) i at)

-- an escape of a letter ends behind it

byte_of : (text : List ℕ) (i c : ℕ) → slice_get text i ≡ Some c → (i < length text) × (get_or text i 0 ≡ c)
byte_of [] i c h = absurd (cc)
byte_of (x ∷ xs) zero c h = (omega arith, is_some x c h)
byte_of (x ∷ xs) (suc i) c h = let rest = byte_of xs i c h in (omega (arith, rest.0), rest.1)

high_letter : (c : ℕ) → 128 ≤ c → letter_escape c ≡ None
high_letter c high = grind (arith, nat_tests)

letter_low : (c b : ℕ) → letter_escape c ≡ Some b → c < 128
letter_low c b e =
    elim (nat_lt c 128) as (λ t. nat_lt c 128 ≡ t → c < 128) [
      | true ↦ λ is. grind (arith, nat_tests)
      | false ↦ λ is. let high : 128 ≤ c = grind (arith, nat_tests) in let none = high_letter c high in absurd (cc)
    ] refl

pub letter_border : (text : List ℕ) → IsUtf8 text → (i c b : ℕ) → slice_get text (i + 1) ≡ Some c → letter_escape c ≡ Some b → IsCharBoundary text (i + 2)
letter_border text utf8 i c b there means =
    let here = byte_of text (i + 1) c there in
    let low = letter_low c b means in
    let same = here.1 in
    let two : i + 1 + 1 ≡ i + 2 = omega arith in
    subst (IsCharBoundary text) two (IsCharBoundary-after_ascii text (i + 1) utf8 here.0 (omega arith))

pub escape_goes_on : (text : List ℕ) (i : ℕ) (special : Special) → i < length text → EndsOnBorder text special → GoesOn text i special
escape_goes_on text i (Closing next) inside border = absurd border
escape_goes_on text i (Escape meaning next) inside border = (inside, border)
escape_goes_on text i Broken inside border = tt

-- a byte that is at a place and is ASCII ends where a character begins
pub behind_byte : (text : List ℕ) → IsUtf8 text → (i c : ℕ) → c < 128 → stands text i c ≡ true → (i < length text) × IsCharBoundary text (i + 1)
behind_byte text utf8 i c low h =
    let here = byte_passes (λ b. eqb b c) text i h in
    let same = eqb-true (get_or text i 0) c here.1 in
    (here.0, IsCharBoundary-after_ascii text i utf8 here.0 (omega arith))

-- an opening ends where a character begins

or_line_end : (text : List ℕ) → IsUtf8 text → (i : ℕ) → IsCharBoundary text i → (o : Option ℕ) → behind_line_end text i ≡ o → IsCharBoundary text (unwrap_or o i)
or_line_end text utf8 i at (Some next) is = line_end_border text utf8 i next is
or_line_end text utf8 i at None is = at

opening_of_border : (text : List ℕ) → IsUtf8 text → (short long : Quoting) (mark i : ℕ) (o : Quoting × ℕ) → mark < 128 → stands text i mark ≡ true
    → opening_of short long mark text i ≡ o → IsCharBoundary text o.1
opening_of_border text utf8 short long mark i o low here e =
    ⊎_elim
    (λ h.
    let many : 3 ≤ marks_in_row mark text i = grind (arith, nat_tests, h.0) in
    let least = prefix_len-le-length (λ c. eqb c mark) (drop i text) in
    let rest = length-drop i text in
    let inside : i + 2 < length text = omega arith in
    let third = run_end_passes (λ c. eqb c mark) text i (i + 2) (omega arith) (omega arith) in
    let same = eqb-true (get_or text (i + 2) 0) mark third in
    let three : i + 2 + 1 ≡ i + 3 = omega arith in
    let border = subst (IsCharBoundary text) three (IsCharBoundary-after_ascii text (i + 2) utf8 inside (omega arith)) in
    subst (λ (x : Quoting × ℕ). IsCharBoundary text x.1) h.1 (or_line_end text utf8 (i + 3) border (behind_line_end text (i + 3)) refl))
    (λ h. subst (λ (x : Quoting × ℕ). IsCharBoundary text x.1) h.1 (behind_byte text utf8 i mark low here).1)
    (if_is (nat_le 3 (marks_in_row mark text i)) (long, unwrap_or (behind_line_end text (i + 3)) (i + 3)) (short, i + 1) o e)

pub opening_border : (text : List ℕ) → IsUtf8 text → (i : ℕ) (o : Quoting × ℕ) → opening text i ≡ Some o → IsCharBoundary text o.1
opening_border text utf8 i o e =
    ⊎_elim (λ h. opening_of_border text utf8 basic long_basic quote i o (omega arith) h.0 (is_some _ o h.1))
    (λ h.
    ⊎_elim (λ k. opening_of_border text utf8 literal long_literal apostrophe i o (omega arith) k.0 (is_some _ o k.1)) (λ k. let none = k.1 in absurd (cc))
    (if_is (stands text i apostrophe) (Some (opening_of literal long_literal apostrophe text i)) None (Some o) h.1))
    (if_is (stands text i quote) (Some (opening_of basic long_basic quote text i))
    (cond (stands text i apostrophe) (Some (opening_of literal long_literal apostrophe text i)) None) (Some o) e)
