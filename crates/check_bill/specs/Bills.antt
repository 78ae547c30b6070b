-- What a bill is.
use Rattle.std.specs.Prelude.{◌≡◌, ℕ, ◌+◌, ◌-◌, ◌*◌, ◌==◌, nat_le, Bool, true, false, not, ◌&&◌, IsTrue, List, [], ◌∷◌}
use Rattle.std.specs.Prelude.{if◌then◌else◌, codes, get_or}
use Rattle.std.specs.Char.{is_ascii_digit}
use Rattle.std.specs.List.{AllByRecursion, list_all}
use Rattle.std.specs.Str.{IsUtf8, byte}
use Rattle.check_bill.specs.declared.bill.Bill.{Bill}
use Rattle.check_bill.specs.declared.bill.BillPackage.{BillPackage}
use Rattle.check_bill.specs.declared.forms.TextForm.{TextForm}
use Rattle.check_bill.specs.declared.forms.TextForm.TheVariants.{Word, Moment, Line}

-- ---- words and lines

abbrev pub has_some : List ℕ → Bool
has_some [] = false
has_some (b ∷ text) = true

-- from `!` to `~`
abbrev pub is_visible : ℕ → Bool
is_visible b = nat_le 33 b && nat_le b 126

-- one or more such characters
abbrev pub is_word : List ℕ → Bool
is_word text = has_some text && list_all is_visible text

-- no LF and no CR
abbrev pub is_in_line : ℕ → Bool
is_in_line b = not (b == 10) && not (b == 13)

-- not empty, and without them
abbrev pub is_line : List ℕ → Bool
is_line text = has_some text && list_all is_in_line text

-- ---- moments

-- `d` stands for any digit, another character for itself
abbrev pub stands_for : ℕ → ℕ → Bool
stands_for form b = if form == byte "d" then is_ascii_digit b else b == form

abbrev pub has_form : List ℕ → List ℕ → Bool
has_form [] [] = true
has_form [] (b ∷ text) = false
has_form (form ∷ forms) [] = false
has_form (form ∷ forms) (b ∷ text) = stands_for form b && has_form forms text

-- the number that the two digits from a place on are
abbrev pub two_digits : ℕ → List ℕ → ℕ
two_digits place text = (get_or text place 0 - 48) * 10 + (get_or text (place + 1) 0 - 48)

abbrev pub lies_in : ℕ → ℕ → ℕ → Bool
lies_in low high number = nat_le low number && nat_le number high

-- the month and the day, which is not compared with the month
abbrev pub has_day : List ℕ → Bool
has_day text = lies_in 1 12 (two_digits 5 text) && lies_in 1 31 (two_digits 8 text)

-- the hour, the minute and the second
abbrev pub has_time : List ℕ → Bool
has_time text =
    lies_in 0 23 (two_digits 11 text) && (lies_in 0 59 (two_digits 14 text) && lies_in 0 59 (two_digits 17 text))

-- a moment, such as 2024-05-01T12:00:00Z
abbrev pub is_moment : List ℕ → Bool
is_moment text = has_form (codes "dddd-dd-ddTdd:dd:ddZ") text && (has_day text && has_time text)

-- a text has a form
abbrev pub is_of : TextForm → List ℕ → Bool
is_of Word text = is_word text
is_of Moment text = is_moment text
is_of Line text = is_line text

-- ---- bills

-- a text of one line
pub record IsLine (text : List ℕ) : Type 0 where
  pub utf8 : IsUtf8 text
  pub line : IsTrue (is_line text)

pub record IsBillPackage (krate : BillPackage) : Type 0 where
  pub name : IsLine krate.name
  pub version : IsLine krate.version
  pub concluded : IsLine krate.concluded
  pub declared : IsLine krate.declared

pub record IsBill (bill : Bill) : Type 0 where
  pub name : IsTrue (is_word bill.name)
  pub namespace : IsTrue (is_word bill.namespace)
  pub created : IsTrue (is_moment bill.created)
  pub packages : AllByRecursion IsBillPackage bill.packages

-- two bills have equal parts but for the moment
pub record IsSame (one other : Bill) : Type 0 where
  pub name : one.name ≡ other.name
  pub namespace : one.namespace ≡ other.namespace
  pub packages : one.packages ≡ other.packages
