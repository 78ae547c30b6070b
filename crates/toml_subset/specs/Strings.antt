-- The four kinds of strings as lists of pieces (TOML 1.0: String).
use Rattle.std.specs.Prelude.{◌≡◌, ℕ, ◌+◌, Bool, true, false, ◌||◌, ◌&&◌, ◌==◌, nat_le, nat_lt, if◌then◌else◌, List, []}
use Rattle.std.specs.Prelude.{◌∷◌, ◌++◌, Option, Some, None, is_some, unwrap_or, slice_get, length, take, drop}
use Rattle.std.specs.Prelude.{encode_utf8}
use Rattle.std.specs.List.{prefix_len, list_all, list_any}
use Rattle.deny_text.specs.declared.span.Span.{Span}
use Rattle.toml_subset.specs.Bytes.{quote, apostrophe, backslash, may_stand}
use Rattle.toml_subset.specs.Numbers.{is_digit_in, count}
use Rattle.toml_subset.specs.Places.{from_to, stands, after_blanks, behind_line_end, after_white}
use Rattle.toml_subset.specs.Written.{WrittenString}

-- `".."`, `'..'`, `"""..."""` and `'''...'''`
pub data Quoting : Type 0 where
  basic : Quoting
  literal : Quoting
  long_basic : Quoting
  long_literal : Quoting

-- the quotation mark or the apostrophe
abbrev pub mark_of : Quoting → ℕ
mark_of basic = quote
mark_of literal = apostrophe
mark_of long_basic = quote
mark_of long_literal = apostrophe

-- whether it may run over lines
abbrev pub is_long : Quoting → Bool
is_long basic = false
is_long literal = false
is_long long_basic = true
is_long long_literal = true

-- whether a backslash begins an escape in it
abbrev pub has_escapes : Quoting → Bool
has_escapes basic = true
has_escapes literal = false
has_escapes long_basic = true
has_escapes long_literal = false

-- what a piece of a string stands for, and whether it was written as an escape
pub record StringPiece : Type 0 where
  pub means : List ℕ
  pub escape : Bool

-- what is at a place in a string: a piece up to a further place, the closing up to one, or nothing that may
pub data StringPart : Type 0 where
  piece : StringPiece → ℕ → StringPart
  closing : ℕ → StringPart
  broken : StringPart

-- how many of these bytes are here in a row
abbrev pub marks_in_row : ℕ → List ℕ → ℕ → ℕ
marks_in_row mark text i = prefix_len (λ c. c == mark) (drop i text)

-- the place behind an opening mark, or behind three and the line end that may follow them
abbrev pub opening_of : Quoting → Quoting → ℕ → List ℕ → ℕ → Quoting × ℕ
opening_of short long mark text i =
    if nat_le 3 (marks_in_row mark text i) then (long, unwrap_or (behind_line_end text (i + 3)) (i + 3))
    else (short, i + 1)

-- the kind of the string that begins at a place, and where its first piece is
abbrev pub opening : List ℕ → ℕ → Option (Quoting × ℕ)
opening text i =
    if stands text i quote then Some (opening_of basic long_basic quote text i)
    else (if stands text i apostrophe then Some (opening_of literal long_literal apostrophe text i) else None)

-- Unicode scalar values: all code points but the surrogates
abbrev pub is_scalar : ℕ → Bool
is_scalar n = nat_lt n 0xd800 || (nat_le 0xe000 n && nat_lt n 0x110000)

-- the scalar value that so many hexadecimal digits name, in UTF-8
abbrev pub scalar_of : ℕ → List ℕ → Option (List ℕ)
scalar_of digits s =
    if (length s == digits) && list_all (is_digit_in 16) s && is_scalar (count 16 s)
    then Some (encode_utf8 (count 16 s)) else None

-- the escapes of one letter: `\b \t \n \f \r \" \\`
abbrev pub letter_escape : ℕ → Option ℕ
letter_escape c =
    if c == 98 then Some 8 else (if c == 116 then Some 9 else (if c == 110 then Some 10 else (if c == 102 then Some 12
    else (if c == 114 then Some 13
    else (if c == quote then Some quote else (if c == backslash then Some backslash else None))))))

abbrev pub escaped_piece : List ℕ → ℕ → StringPart
escaped_piece means next = piece (record { means = means; escape = true }) next

abbrev pub plain_piece : List ℕ → ℕ → StringPart
plain_piece means next = piece (record { means = means; escape = false }) next

-- `\uXXXX` and `\UXXXXXXXX`, the backslash standing at the place
abbrev pub scalar_escape : ℕ → List ℕ → ℕ → StringPart
scalar_escape digits text i =
    elim (scalar_of digits (take digits (drop (i + 2) text)))
    [ Some bytes ↦ escaped_piece bytes (i + 2 + digits) | None ↦ broken ]

-- In a string over lines a backslash at a line's end, with white space behind it alone, drops all white space and line
-- ends up to the next other character.
abbrev pub trimming_escape : Quoting → List ℕ → ℕ → StringPart
trimming_escape kind text i =
    if is_long kind && is_some (behind_line_end text (after_blanks text (i + 1)))
    then escaped_piece [] (after_white text (i + 1)) else broken

-- the escape at the backslash at a place, by the byte behind it
abbrev pub escape_by : Quoting → List ℕ → ℕ → ℕ → StringPart
escape_by kind text i c =
    if c == 117 then scalar_escape 4 text i
    else (if c == 85 then scalar_escape 8 text i
    else elim (letter_escape c) [ Some byte ↦ escaped_piece (byte ∷ []) (i + 2) | None ↦ trimming_escape kind text i ])

abbrev pub escape_at : Quoting → List ℕ → ℕ → StringPart
escape_at kind text i = elim (slice_get text (i + 1)) [ Some c ↦ escape_by kind text i c | None ↦ broken ]

-- One mark closes a string of one line. Three in a row close one over lines; one or two belong to it, also directly
-- before the three that close it.
abbrev pub mark_at : Quoting → List ℕ → ℕ → StringPart
mark_at kind text i =
    if is_long kind
    then (let marks = marks_in_row (mark_of kind) text i in
    if marks == 3 then closing (i + 3)
    else (if nat_le marks 5 then plain_piece (mark_of kind ∷ []) (i + 1) else broken))
    else closing (i + 1)

-- A byte stands for itself unless it is a control character. A line end may be in a string over lines, and is kept
-- as it is written.
abbrev pub plain_at : Quoting → List ℕ → ℕ → StringPart
plain_at kind text i =
    elim (slice_get text i) [
      | Some c ↦
          (if may_stand c || (is_long kind && is_some (behind_line_end text i)) then plain_piece (c ∷ []) (i + 1)
          else broken)
      | None ↦ broken
    ]

-- what is at a place in a string
abbrev pub part_at : Quoting → List ℕ → ℕ → StringPart
part_at kind text i =
    if stands text i (mark_of kind) then mark_at kind text i
    else (if has_escapes kind && stands text i backslash then escape_at kind text i else plain_at kind text i)

-- these pieces are from a place up to the closing, which ends before a further place
abbrev pub ArePieces : Quoting → List ℕ → ℕ → List StringPiece → ℕ → ℕ → Type 0
ArePieces kind text i [] close next = (part_at kind text i ≡ closing next) × (close ≡ i)
ArePieces kind text i (p ∷ ps) close next =
    (k : ℕ) × (part_at kind text i ≡ piece p k) × ArePieces kind text k ps close next

-- what the pieces stand for one after another, and whether one of them is an escape
abbrev pub pieces_text : List StringPiece → List ℕ
pieces_text [] = []
pieces_text (p ∷ ps) = p.means ++ pieces_text ps

abbrev pub written_of : List StringPiece → WrittenString
written_of ps = record { text = pieces_text ps; escaped = list_any (λ (p : StringPiece). p.escape) ps }

-- A string of a kind is at a place: its opening, its pieces and its closing. Its span lies between the delimiters.
pub record IsString (text : List ℕ) (i : ℕ) (kind : Quoting) (w : WrittenString) (span : Span) (next : ℕ) : Type 0 where
  pub pieces : List StringPiece
  pub first : ℕ
  pub close : ℕ
  pub opens : opening text i ≡ Some (kind, first)
  pub body : ArePieces kind text first pieces close next
  pub stands_for : w ≡ written_of pieces
  pub spans : span ≡ from_to first close
