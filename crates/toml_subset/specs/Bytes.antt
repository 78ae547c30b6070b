-- The characters of the subset, by their bytes, and which may be where (TOML 1.0: Spec, Comment, Keys).
use Rattle.std.specs.Prelude.{ℕ, Bool, ◌||◌, ◌&&◌, ◌==◌, not, nat_le, nat_lt}

abbrev pub tab : ℕ
tab = 9

abbrev pub line_feed : ℕ
line_feed = 10

abbrev pub carriage_return : ℕ
carriage_return = 13

abbrev pub space : ℕ
space = 32

abbrev pub quote : ℕ
quote = 34

abbrev pub hash : ℕ
hash = 35

abbrev pub apostrophe : ℕ
apostrophe = 39

abbrev pub plus : ℕ
plus = 43

abbrev pub comma : ℕ
comma = 44

abbrev pub minus : ℕ
minus = 45

abbrev pub dot : ℕ
dot = 46

abbrev pub colon : ℕ
colon = 58

abbrev pub equals : ℕ
equals = 61

abbrev pub open_bracket : ℕ
open_bracket = 91

abbrev pub backslash : ℕ
backslash = 92

abbrev pub close_bracket : ℕ
close_bracket = 93

abbrev pub underscore : ℕ
underscore = 95

abbrev pub open_brace : ℕ
open_brace = 123

abbrev pub close_brace : ℕ
close_brace = 125

-- white space within a line: a space or a tab
abbrev pub is_blank : ℕ → Bool
is_blank c = (c == space) || (c == tab)

-- U+0000 to U+001F and U+007F
abbrev pub is_control : ℕ → Bool
is_control c = nat_lt c 32 || (c == 127)

-- what may be in a comment or a string: all but the control characters other than tab
abbrev pub may_stand : ℕ → Bool
may_stand c = not (is_control c) || (c == tab)

-- an ASCII digit
abbrev pub is_digit : ℕ → Bool
is_digit c = nat_le 48 c && nat_le c 57

-- an ASCII letter
abbrev pub is_letter : ℕ → Bool
is_letter c = (nat_le 65 c && nat_le c 90) || (nat_le 97 c && nat_le c 122)

abbrev pub is_sign : ℕ → Bool
is_sign c = (c == plus) || (c == minus)

abbrev pub is_point : ℕ → Bool
is_point c = c == dot

-- what an exponent begins with
abbrev pub is_e : ℕ → Bool
is_e c = (c == 101) || (c == 69)

-- what a bare key is made of
abbrev pub is_bare : ℕ → Bool
is_bare c = is_letter c || is_digit c || (c == minus) || (c == underscore)

-- what a number run is made of
abbrev pub is_run : ℕ → Bool
is_run c = is_bare c || (c == plus) || (c == dot) || (c == colon)

-- what a number run that has a value begins with
abbrev pub begins_run : ℕ → Bool
begins_run c = is_digit c || is_sign c
