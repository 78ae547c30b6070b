-- What a fault says of a text.
use Rattle.std.specs.Prelude.{◌≡◌, ℕ, zero, suc, ◌+◌, ◌<◌, ◌≤◌, ◌==◌, if◌then◌else◌, Bool, not, ◌||◌, ◌⊎◌, IsTrue}
use Rattle.std.specs.Prelude.{IsFalse, List, [], ◌∷◌, ◌++◌, Some, None, length, take, drop, ⊤}
use Rattle.std.specs.List.{prefix_len}
use Rattle.std.specs.Str.{IsCharBoundary}
use Rattle.deny_text.specs.declared.span.Span.{Span}
use Rattle.toml_subset.specs.Bytes.{line_feed, backslash, equals, hash, open_bracket, close_bracket, open_brace}
use Rattle.toml_subset.specs.Bytes.{may_stand, is_run, begins_run}
use Rattle.toml_subset.specs.Data.{Toml}
use Rattle.toml_subset.specs.Keys.{AreKeys}
use Rattle.toml_subset.specs.Numbers.{Class, unsupported, number_form, number_range, class_of, is_special, is_digit_in}
use Rattle.toml_subset.specs.Places.{from_to, passes_at, stands, run_end, run_at, after_blanks, behind_line_end}
use Rattle.toml_subset.specs.Places.{char_end}
use Rattle.toml_subset.specs.Strings.{Quoting, has_escapes, StringPiece, StringPart, piece, broken, opening, part_at}
use Rattle.toml_subset.specs.Text.{IsText}
use Rattle.toml_subset.specs.declared.string.Key.{Key}
use Rattle.toml_subset.specs.declared.error.SyntaxError.{SyntaxError}
use Rattle.toml_subset.specs.declared.error.SyntaxReason.{SyntaxReason}
use Rattle.toml_subset.specs.declared.error.SyntaxReason.TheVariants.{UnexpectedEnd, Unexpected, InvalidEscape}
use Rattle.toml_subset.specs.declared.error.SyntaxReason.TheVariants.{ControlCharacter, NumberForm, NumberRange}
use Rattle.toml_subset.specs.declared.error.SyntaxReason.TheVariants.{Unsupported, DuplicateKey, RedefinedTable}
use Rattle.toml_subset.specs.declared.error.SyntaxReason.TheVariants.{TooDeep}

-- a number run begins with a digit or a sign, or is `inf` or `nan`
abbrev pub begins_number : List ℕ → ℕ → Bool
begins_number text i = passes_at begins_run text i || is_special (run_at is_run text i)

-- a number run of a class is here
pub record IsRunOf (class : Class) (text : List ℕ) (span : Span) : Type 0 where
  pub begins : IsTrue (begins_number text span.start)
  pub ends : span.end ≡ run_end is_run text span.start
  pub is : class_of (run_at is_run text span.start) ≡ class

-- whose key it is: that of a pair on a line or in an inline table, that of a header, or that of an array header
pub data Role : Type 0 where
  of_pair : Role
  of_header : Role
  of_array_header : Role

-- a line begins at a place
abbrev pub LineBegins : List ℕ → ℕ → Type 0
LineBegins text zero = ⊤
LineBegins text (suc i) = IsTrue (stands text i line_feed)

-- What stands on either side of a key's parts, which are from a place up to another: `=` behind them, or a header's
-- brackets on both sides, of which the first is the line's first character behind blanks.
abbrev pub IsKeyOf : Role → List ℕ → ℕ → ℕ → Type 0
IsKeyOf of_pair text i next = IsTrue (stands text (after_blanks text next) equals)
IsKeyOf of_header text i next =
    (line : ℕ) × LineBegins text line × IsTrue (stands text (after_blanks text line) open_bracket)
    × IsFalse (stands text (after_blanks text line + 1) open_bracket)
    × (i ≡ after_blanks text (after_blanks text line + 1))
    × IsTrue (stands text (after_blanks text next) close_bracket)
IsKeyOf of_array_header text i next =
    (line : ℕ) × LineBegins text line × IsTrue (stands text (after_blanks text line) open_bracket)
    × IsTrue (stands text (after_blanks text line + 1) open_bracket)
    × (i ≡ after_blanks text (after_blanks text line + 2))
    × IsTrue (stands text (after_blanks text next) close_bracket)
    × IsTrue (stands text (after_blanks text next + 1) close_bracket)

-- a part of a key is here, without its quotes, these further parts behind it
pub record IsKeyPart (role : Role) (behind : List Key) (text : List ℕ) (span : Span) : Type 0 where
  pub before : List Key
  pub key : Key
  pub place : ℕ
  pub next : ℕ
  pub stands_there : AreKeys text place (before ++ key ∷ behind) next
  pub role_is : IsKeyOf role text place next
  pub spans : span ≡ key.span

-- the last part of a pair's key
abbrev pub IsLastPart : List ℕ → Span → Type 0
IsLastPart = IsKeyPart of_pair []

-- a part that leads to a table: one before the last of a pair's key, or any of a header
abbrev pub IsTablePart : List ℕ → Span → Type 0
IsTablePart text span =
    ((behind : List Key) × (0 < length behind) × IsKeyPart of_pair behind text span)
    ⊎ ((behind : List Key) × (IsKeyPart of_header behind text span ⊎ IsKeyPart of_array_header behind text span))

-- these pieces are from a place of a string up to another
abbrev pub ArePiecesTo : Quoting → List ℕ → ℕ → List StringPiece → ℕ → Type 0
ArePiecesTo kind text i [] end = end ≡ i
ArePiecesTo kind text i (p ∷ ps) end = (k : ℕ) × (part_at kind text i ≡ piece p k) × ArePiecesTo kind text k ps end

-- a string of a kind begins, and goes on up to a place where no part of it is there
pub record BreaksOff (kind : Quoting) (text : List ℕ) (i : ℕ) : Type 0 where
  pub place : ℕ
  pub first : ℕ
  pub pieces : List StringPiece
  pub opens : opening text place ≡ Some (kind, first)
  pub body : ArePiecesTo kind text first pieces i
  pub breaks : part_at kind text i ≡ broken

-- a comment ends at a place where no line does
pub record IsCutComment (text : List ℕ) (i : ℕ) : Type 0 where
  pub place : ℕ
  pub begins : IsTrue (stands text place hash)
  pub ends : i ≡ run_end may_stand text (place + 1)
  pub cut : behind_line_end text i ≡ None

-- where so many hexadecimal digits end that name no scalar value, or behind the first character that is none
abbrev pub digits_end : ℕ → List ℕ → ℕ → ℕ
digits_end digits text i =
    let found = prefix_len (is_digit_in 16) (take digits (drop i text)) in
    if found == digits then i + digits else char_end text (i + found)

-- the place behind a wrong escape: behind its digits, or behind the character at which it goes wrong
abbrev pub escape_end : List ℕ → ℕ → ℕ
escape_end text i =
    if stands text (i + 1) 117 then digits_end 4 text (i + 2)
    else (if stands text (i + 1) 85 then digits_end 8 text (i + 2) else char_end text (i + 1))

-- an opening bracket or brace is here
abbrev pub IsOpening : List ℕ → Span → Type 0
IsOpening text span =
    (IsTrue (stands text span.start open_bracket) ⊎ IsTrue (stands text span.start open_brace))
    × (span.end ≡ span.start + 1)

-- what is at a fault, by its reason
abbrev pub StandsThere : SyntaxReason → List ℕ → Span → Type 0
StandsThere UnexpectedEnd text span = span ≡ from_to (length text) (length text)
StandsThere Unexpected text span = (span.start < length text) × (span.end ≡ char_end text span.start)
StandsThere InvalidEscape text span =
    ((kind : Quoting) × IsTrue (has_escapes kind) × BreaksOff kind text span.start)
    × IsTrue (stands text span.start backslash) × (span.end ≡ escape_end text span.start)
StandsThere ControlCharacter text span =
    (((kind : Quoting) × BreaksOff kind text span.start) ⊎ IsCutComment text span.start)
    × IsTrue (passes_at (λ c. not (may_stand c)) text span.start) × (span.end ≡ span.start + 1)
StandsThere NumberForm text span = IsRunOf number_form text span
StandsThere NumberRange text span = IsRunOf number_range text span
StandsThere Unsupported text span = IsRunOf unsupported text span
StandsThere DuplicateKey text span = IsLastPart text span
StandsThere RedefinedTable text span = IsTablePart text span
StandsThere TooDeep text span = IsOpening text span ⊎ IsTablePart text span

-- a fault's span lies in the text from a place on, on character borders, and what its reason says is there
pub record IsSyntaxFault (text : List ℕ) (from : ℕ) (fault : SyntaxError) : Type 0 where
  pub begins : from ≤ fault.span.start
  pub ordered : fault.span.start ≤ fault.span.end
  pub start_border : IsCharBoundary text fault.span.start
  pub end_border : IsCharBoundary text fault.span.end
  pub there : StandsThere fault.reason text fault.span

-- The text has no value, and so have all its prefixes of whole lines, each ended by LF, that end behind the span's
-- start.
pub record IsFirstFault (text : List ℕ) (fault : SyntaxError) : Type 0 where
  pub is_fault : IsSyntaxFault text 0 fault
  pub outside : (value : Toml) → IsText text value → ⊥
  pub fronts : (i : ℕ) (value : Toml) → fault.span.start ≤ i → IsTrue (stands text i line_feed)
      → IsText (take (i + 1) text) value → ⊥
