-- Number runs and their classes (TOML 1.0: Integer, Float, Offset Date-Time and the three after it). What TOML has and
-- the subset has not is Unsupported; what neither has is a wrong form.
use Rattle.std.specs.Prelude.{ℕ, ◌+◌, ◌-◌, ◌*◌, ◌^◌, Bool, false, ◌||◌, ◌&&◌, not, ◌==◌, nat_eq, nat_le, nat_lt}
use Rattle.std.specs.Prelude.{if◌then◌else◌, List, [], ◌∷◌, length, take, drop, ℤ, pos, neg_ℤ, codes}
use Rattle.std.specs.List.{list_all, before_first, after_first, prefix_len, starts_with, slice_split}
use Rattle.std.specs.Str.{bytes_eq}
use Rattle.toml_subset.specs.Bytes.{colon, minus, underscore, is_digit, is_letter, is_sign, is_point, is_e}
use Rattle.toml_subset.specs.Places.{front_is}

-- what a run is: a number that is read, or why it is refused
pub data Class : Type 0 where
  unsupported : Class
  number_form : Class
  number_range : Class
  integer : ℤ → Class
  decimal : ℤ → Class

-- what a digit counts: `0` to `9`, and then `a` to `z` or `A` to `Z` from ten on
abbrev pub digit_value : ℕ → ℕ
digit_value c = if is_digit c then c - 48 else (if nat_le 97 c then c - 87 else c - 55)

-- a digit in a base up to 36
abbrev pub is_digit_in : ℕ → ℕ → Bool
is_digit_in base c = (is_digit c || is_letter c) && nat_lt (digit_value c) base

-- digits in a base alone, and at least one
abbrev pub are_digits_in : ℕ → List ℕ → Bool
are_digits_in base s = not (length s == 0) && list_all (is_digit_in base) s

-- digits with single underscores between them: the parts between the underscores are digits alone
abbrev pub are_grouped : ℕ → List ℕ → Bool
are_grouped base s = list_all (are_digits_in base) (slice_split (λ c. c == underscore) s)

-- digits alone, and at least one
abbrev pub are_digits : List ℕ → Bool
are_digits s = not (length s == 0) && list_all is_digit s

-- what grouped digits count behind others that count `high`
abbrev pub number_behind : ℕ → ℕ → List ℕ → ℕ
number_behind base high [] = high
number_behind base high (c ∷ cs) = number_behind base (if c == underscore then high else high * base + digit_value c) cs

abbrev pub count : ℕ → List ℕ → ℕ
count base = number_behind base 0

-- the run without its sign
abbrev pub unsigned : List ℕ → List ℕ
unsigned [] = []
unsigned (c ∷ cs) = if is_sign c then cs else c ∷ cs

abbrev pub is_negative : List ℕ → Bool
is_negative = front_is (λ c. c == minus)

-- the decimal form of an integer, its sign apart: no zero is before other digits
abbrev pub is_whole : List ℕ → Bool
is_whole s = are_grouped 10 s && ((length s == 1) || not (front_is (λ c. c == 48) s))

-- what is before the point, and behind it
abbrev pub whole_part : List ℕ → List ℕ
whole_part = before_first is_point

abbrev pub fraction : List ℕ → List ℕ
fraction = after_first is_point

-- what is before the `e`, and behind it
abbrev pub before_e : List ℕ → List ℕ
before_e = before_first is_e

abbrev pub after_e : List ℕ → List ℕ
after_e = after_first is_e

-- an integer of the decimal form, with or without a point and digits
abbrev pub is_mantissa : List ℕ → Bool
is_mantissa s = is_whole s || (is_whole (whole_part s) && are_digits (fraction s))

-- a mantissa, `e` or `E`, an optional sign and digits
abbrev pub has_exponent : List ℕ → Bool
has_exponent s = is_mantissa (before_e s) && are_digits (unsigned (after_e s))

-- a fraction that is not one or two digits alone
abbrev pub has_long_fraction : List ℕ → Bool
has_long_fraction s = is_whole (whole_part s) && are_grouped 10 (fraction s) && not (nat_le (length (fraction s)) 2)

-- so many digits at the front, and then a mark
abbrev pub digits_before : ℕ → ℕ → List ℕ → Bool
digits_before digits mark s =
    (prefix_len is_digit (take digits s) == digits) && front_is (λ c. c == mark) (drop digits s)

-- four digits and `-`, or two digits and `:`
abbrev pub begins_date : List ℕ → Bool
begins_date s = digits_before 4 minus s || digits_before 2 colon s

-- `inf` and `nan`, with or without a sign
abbrev pub is_special : List ℕ → Bool
is_special run = bytes_eq (unsigned run) (codes "inf") || bytes_eq (unsigned run) (codes "nan")

abbrev pub is_unsupported : List ℕ → Bool
is_unsupported run =
    begins_date run || is_special run || has_exponent (unsigned run) || has_long_fraction (unsigned run)

-- the base that `0x`, `0o` or `0b` names, and ten where none is there
abbrev pub base_of : List ℕ → ℕ
base_of run =
    if starts_with nat_eq run (codes "0x") then 16
    else (if starts_with nat_eq run (codes "0o") then 8
    else (if starts_with nat_eq run (codes "0b") then 2 else 10))

-- one or two digits behind a point, in whole hundredths: one digit counts tens
abbrev pub hundredths : List ℕ → ℕ
hundredths s = if length s == 1 then 10 * count 10 s else count 10 s

-- one or two digits behind an integer of the decimal form and a point
abbrev pub is_decimal : List ℕ → Bool
is_decimal s = is_whole (whole_part s) && are_digits (fraction s) && nat_le (length (fraction s)) 2

-- a number with a sign
abbrev pub with_sign : Bool → ℕ → ℤ
with_sign negative n = if negative then neg_ℤ (pos n) else pos n

-- in 64 bits with a sign: below 2 ^ 63, and 2 ^ 63 itself where it is negative
abbrev pub in_range : Bool → ℕ → Bool
in_range negative n = if negative then nat_le n (2 ^ 63) else nat_lt n (2 ^ 63)

-- a number of a form that is read, or out of range
abbrev pub number_class : (ℤ → Class) → Bool → ℕ → Class
number_class make negative n = if in_range negative n then make (with_sign negative n) else number_range

-- a decimal in whole hundredths, its sign apart
abbrev pub decimal_count : List ℕ → ℕ
decimal_count s = 100 * count 10 (whole_part s) + hundredths (fraction s)

-- an integer in a base that its front named
abbrev pub based_form : ℕ → List ℕ → Class
based_form base digits = if are_grouped base digits then number_class integer false (count base digits) else number_form

-- a run without a base at its front: an integer, a decimal, or neither
abbrev pub decimal_or_whole : List ℕ → Class
decimal_or_whole run =
    if is_whole (unsigned run) then number_class integer (is_negative run) (count 10 (unsigned run))
    else (if is_decimal (unsigned run) then number_class decimal (is_negative run) (decimal_count (unsigned run))
    else number_form)

-- the form of a run that is not unsupported
abbrev pub form_of : List ℕ → Class
form_of run = if base_of run == 10 then decimal_or_whole run else based_form (base_of run) (drop 2 run)

-- the class of a number run, in the order: unsupported, form, range
abbrev pub class_of : List ℕ → Class
class_of run = if is_unsupported run then unsupported else form_of run
