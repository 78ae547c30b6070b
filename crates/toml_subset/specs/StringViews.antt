-- What the program's kinds of strings and parts of strings stand for.
use Rattle.std.specs.Prelude.{◌≡◌, ℕ, suc, ◌+◌, ◌<◌, ◌≤◌, Bool, true, false, not, ◌||◌, ◌&&◌, List, [], ◌++◌, Option}
use Rattle.std.specs.Prelude.{Some, None, is_some, Ok, slice_get, length, encode_utf8, ⊤}
use Rattle.std.specs.List.{list_any}
use Rattle.std.specs.Str.{IsCharBoundary}
use Rattle.toml_subset.specs.Answer.{TomlReading, then_read}
use Rattle.toml_subset.specs.Bytes.{may_stand}
use Rattle.toml_subset.specs.Places.{behind_line_end}
use Rattle.toml_subset.specs.StringReading.{Pieces, read_pieces}
use Rattle.toml_subset.specs.Strings.{Quoting, basic, literal, long_basic, long_literal, StringPiece, StringPart, piece}
use Rattle.toml_subset.specs.Strings.{closing, broken, escaped_piece, part_at, pieces_text}
use Rattle.toml_subset.specs.declared.strings.Quotes.{Quotes}
use Rattle.toml_subset.specs.declared.strings.Quotes.TheVariants.{Basic, Literal, LongBasic, LongLiteral}
use Rattle.toml_subset.specs.declared.strings.Special.{Special}
use Rattle.toml_subset.specs.declared.strings.Special.TheVariants.{Closing, Escape, Broken}

abbrev pub kind_of : Quotes → Quoting
kind_of Basic = basic
kind_of Literal = literal
kind_of LongBasic = long_basic
kind_of LongLiteral = long_literal

abbrev pub quoting_start : Quotes × ℕ → Quoting × ℕ
quoting_start first = (kind_of first.0, first.1)

-- the bytes of a character, if there is one
abbrev pub meaning_of : Option ℕ → List ℕ
meaning_of (Some c) = encode_utf8 c
meaning_of None = []

abbrev pub part_of : Special → StringPart
part_of (Closing next) = closing next
part_of (Escape meaning next) = escaped_piece (meaning_of meaning) next
part_of Broken = broken

-- whether a piece is there that is no escape
abbrev pub is_plain_part : StringPart → Bool
is_plain_part (piece p next) = not p.escape
is_plain_part (closing next) = false
is_plain_part broken = false

-- where reading goes on behind a part
abbrev pub GoesOn : List ℕ → ℕ → Special → Type 0
GoesOn text i (Closing next) = (i < length text) × (next ≤ length text)
GoesOn text i (Escape meaning next) = (i < length text) × IsCharBoundary text next
GoesOn text i Broken = ⊤

-- an escape that was read ends where a character does, and a closing in the text
abbrev pub EndsOnBorder : List ℕ → Special → Type 0
EndsOnBorder text (Closing next) = ⊥
EndsOnBorder text (Escape meaning next) = IsCharBoundary text next
EndsOnBorder text Broken = ⊤

abbrev pub ClosesWithin : List ℕ → Special → Type 0
ClosesWithin text (Closing next) = next ≤ length text
ClosesWithin text (Escape meaning next) = ⊥
ClosesWithin text Broken = ⊤

-- whether a byte that is no mark and no backslash may be at a place
abbrev pub kept_at : Bool → List ℕ → ℕ → Bool
kept_at long text i =
    elim (slice_get text i) [ Some c ↦ may_stand c || (long && is_some (behind_line_end text i)) | None ↦ false ]

-- plain bytes are from a place up to another
pub record IsPlainRun (kind : Quoting) (text : List ℕ) (i j : ℕ) : Type 0 where
  pub ordered : i ≤ j
  pub plain : (k : ℕ) → i ≤ k → k < j → is_plain_part (part_at kind text k) ≡ true

abbrev pub pieces_after : List StringPiece → Pieces → TomlReading Pieces
pieces_after before r = Ok (before ++ r.0, r.1, r.2)

-- a string was read up to a place, so that its text so far, and whether an escape was read, are these
pub record IsStringRead (kind : Quoting) (text : List ℕ) (first : ℕ) (means : List ℕ) (escaped : Bool)
    (i : ℕ) : Type 0 where
  pub before : List StringPiece
  pub left : ℕ
  pub room : length text < i + left
  pub is : read_pieces (suc (length text)) kind text first
      ≡ then_read (pieces_after before) (read_pieces left kind text i)
  pub text_so_far : pieces_text before ≡ means
  pub escapes_so_far : list_any (λ (p : StringPiece). p.escape) before ≡ escaped
