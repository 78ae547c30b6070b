-- The lines of a catalogue file: what each of them says.
use Rattle.std.specs.Prelude.{ℕ, ◌==◌, ◌^◌, nat_lt, Bool, true, false, not, ◌&&◌, List, [], ◌∷◌, ◌++◌, codes, Option}
use Rattle.std.specs.Prelude.{Some, None, if◌then◌else◌}
use Rattle.std.specs.Char.{is_ascii_digit}
use Rattle.std.specs.List.{find, list_all, join_with_byte}
use Rattle.std.specs.Str.{byte, bytes_eq}
use Rattle.std.specs.Str.Parse.{digits_value}
use Rattle.deny_text.specs.Cut.{cut_at}
use Rattle.spdx_terms.specs.declared.catalog.catalog.LicenseEntry.{LicenseEntry}
use Rattle.spdx_terms.specs.catalog.TextWords.{has_some}
use Rattle.spdx_terms.specs.catalog.Words.{is_space}

-- Nothing, as an empty line and a remark; what is known of a licence; the name of an exception; or an imprecise text,
-- and the name of the licence that it means.
pub data LineForm : Type 0 where
  nothing : LineForm
  license : List ℕ → LicenseEntry → LineForm
  exception : List ℕ → LineForm
  imprecise : List ℕ → List ℕ → LineForm

-- ---- numbers

abbrev pub has_leading_zero : List ℕ → Bool
has_leading_zero [] = false
has_leading_zero (digit ∷ digits) = digit == byte "0" && has_some digits

-- digits, and no zero before others
abbrev pub is_decimal : List ℕ → Bool
is_decimal word = has_some word && list_all is_ascii_digit word && not (has_leading_zero word)

-- the number below 2 ^ 32 that a word is
unfoldable pub decimal_of : List ℕ → Option ℕ
decimal_of word =
    if is_decimal word && nat_lt (digits_value 10 word) (2 ^ 32) then Some (digits_value 10 word) else None

-- ---- marks

-- whether a licence means later versions too, whether it is deprecated, and whether it is one of GNU
pub record MarksSet : Type 0 where
  pub later : Bool
  pub deprecated : Bool
  pub gnu : Bool

abbrev pub marks_from : Bool → Bool → Bool → MarksSet
marks_from later deprecated gnu = record { later = later; deprecated = deprecated; gnu = gnu }

abbrev pub no_marks : MarksSet
no_marks = marks_from false false false

-- one mark or more
abbrev pub some_marks : List MarksSet
some_marks =
    marks_from false false true ∷ marks_from false true false ∷ marks_from false true true
    ∷ marks_from true false false ∷ marks_from true false true ∷ marks_from true true false ∷ marks_from true true true
    ∷ []

-- the words for marks, in this order
abbrev pub marks_words : MarksSet → List (List ℕ)
marks_words marks =
    (if marks.later then codes "later" ∷ [] else []) ++ (if marks.deprecated then codes "deprecated" ∷ [] else [])
    ++ (if marks.gnu then codes "gnu" ∷ [] else [])

-- the marks that are written so, with single spaces between
unfoldable pub marks_of : List ℕ → Option MarksSet
marks_of text = find (λ marks. bytes_eq text (join_with_byte 32 (marks_words marks))) some_marks

-- ---- lines

-- a rank with its marks
abbrev pub with_marks : Option ℕ → Option MarksSet → Option (ℕ × MarksSet)
with_marks None marks = None
with_marks (Some rank) None = None
with_marks (Some rank) (Some marks) = Some (rank, marks)

-- a rank, and behind a space marks; where there is no space, the rank alone
abbrev pub rank_of : List ℕ → Option (List ℕ × List ℕ) → Option (ℕ × MarksSet)
rank_of whole None = with_marks (decimal_of whole) (Some no_marks)
rank_of whole (Some ranked) = with_marks (decimal_of ranked.0) (marks_of ranked.1)

abbrev pub license_form : List ℕ → Option ℕ → Option (ℕ × MarksSet) → Option LineForm
license_form name None ranked = None
license_form name (Some family) None = None
license_form name (Some family) (Some ranked) =
    Some (license name (record {
      family = family;
      rank = ranked.0;
      later = ranked.1.later;
      deprecated = ranked.1.deprecated;
      gnu = ranked.1.gnu;
    }))

-- the family's number, and behind a space the rank with the marks
abbrev pub license_numbered : List ℕ → Option (List ℕ × List ℕ) → Option LineForm
license_numbered name None = None
license_numbered name (Some numbers) =
    license_form name (decimal_of numbers.0) (rank_of numbers.1 (cut_at is_space numbers.1))

-- a name, and behind a space its numbers
abbrev pub license_cut : Option (List ℕ × List ℕ) → Option LineForm
license_cut None = None
license_cut (Some named) = license_numbered named.0 (cut_at is_space named.1)

-- a name, and behind a space a text
abbrev pub imprecise_cut : Option (List ℕ × List ℕ) → Option LineForm
imprecise_cut None = None
imprecise_cut (Some named) = Some (imprecise named.1 named.0)

-- by the first word, and what is behind the space after it
abbrev pub form_by : List ℕ → List ℕ → Option LineForm
form_by word rest =
    if bytes_eq word (codes "license") then license_cut (cut_at is_space rest)
    else (if bytes_eq word (codes "exception") then Some (exception rest)
    else (if bytes_eq word (codes "imprecise") then imprecise_cut (cut_at is_space rest) else None))

abbrev pub form_cut : Option (List ℕ × List ℕ) → Option LineForm
form_cut None = None
form_cut (Some cut) = form_by cut.0 cut.1

-- empty, or a remark
abbrev pub says_nothing : List ℕ → Bool
says_nothing [] = true
says_nothing (first ∷ rest) = first == byte "#"

-- What a line says, where it has one of the forms: it is empty, or begins with `#`, or is with single spaces `license
-- NAME FAMILY RANK` with the marks, `exception NAME`, or `imprecise NAME TEXT`.
unfoldable pub form_of : List ℕ → Option LineForm
form_of line = if says_nothing line then Some nothing else form_cut (cut_at is_space line)
