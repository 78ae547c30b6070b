-- The numbers that words write.
use Rattle.std.specs.Prelude.{ℕ, ◌+◌, ◌-◌, ◌*◌, ◌^◌, ◌==◌, Bool, ◌&&◌, nat_le, nat_lt, List, [], ◌∷◌, length, Option}
use Rattle.std.specs.Prelude.{Some, None, option_and_then, if◌then◌else◌}
use Rattle.std.specs.List.{list_all}
use Rattle.std.specs.Char.{is_digit}
use Rattle.run_request.specs.declared.number.SampleSize.{SampleSize}
use Rattle.run_request.specs.declared.number.Threshold.{Threshold}
use Rattle.std.specs.Str.Parse.{digits_value, without_leading_plus}

-- one decimal digit or more, and nothing else
abbrev pub is_numeral : List ℕ → Bool
is_numeral digits = nat_lt 0 (length digits) && list_all (λ byte. is_digit byte 10) digits

-- the value of the digits, where it is below the limit
abbrev pub value_below : ℕ → List ℕ → Option ℕ
value_below limit digits =
    if is_numeral digits && nat_lt (digits_value 10 digits) limit then Some (digits_value 10 digits) else None

-- the number that a word writes: a plus or none, and decimal digits, below 2^32
abbrev pub number_of : List ℕ → Option ℕ
number_of word = value_below (2 ^ 32) (without_leading_plus word)

-- a size from 1 to 20,000
abbrev pub size_of : ℕ → Option SampleSize
size_of number = if nat_le 1 number && nat_le number 20000 then Some (record { 0 = number }) else None

-- how many crates a sample has: such a number, from 1 to 20,000
abbrev pub sample_size_of : List ℕ → Option SampleSize
sample_size_of word = option_and_then size_of (number_of word)

-- the value of a decimal digit
abbrev pub digit_of : ℕ → Option ℕ
digit_of byte = if nat_le 48 byte && nat_le byte 57 then Some (byte - 48) else None

-- so many hundredths, where they are at most one
abbrev pub at_most_one : ℕ → Option Threshold
at_most_one total = if nat_le total 100 then Some (record { 0 = total }) else None

-- the hundredths that three digits write, the first before the point, where the number is at most one
abbrev pub hundredths_of : ℕ → ℕ → ℕ → Option Threshold
hundredths_of ones tenths hundredths =
    option_and_then (λ one. option_and_then (λ ten. option_and_then (λ hundred.
    at_most_one (one * 100 + ten * 10 + hundred)) (digit_of hundredths)) (digit_of tenths)) (digit_of ones)

-- the same behind a point
abbrev pub behind_point : ℕ → ℕ → ℕ → ℕ → Option Threshold
behind_point point ones tenths hundredths = if point == 46 then hundredths_of ones tenths hundredths else None

-- the threshold that a word writes, in hundredths: a digit, and maybe a point and one or two digits; at most one
abbrev pub threshold_read : List ℕ → Option Threshold
threshold_read [] = None
threshold_read (ones ∷ []) = hundredths_of ones 48 48
threshold_read (ones ∷ point ∷ []) = None
threshold_read (ones ∷ point ∷ tenths ∷ []) = behind_point point ones tenths 48
threshold_read (ones ∷ point ∷ tenths ∷ hundredths ∷ []) = behind_point point ones tenths hundredths
threshold_read (ones ∷ point ∷ tenths ∷ hundredths ∷ more ∷ rest) = None
