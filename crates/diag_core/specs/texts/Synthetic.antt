-- A text that is written in pieces, some of which are marked, and the places of those.
use Rattle.std.specs.Prelude.{◌≡◌, ℕ, ◌+◌, ◌-◌, List, [], ◌∷◌, ◌++◌, length, take, drop, map}
use Rattle.std.specs.List.{fold, All}
use Rattle.std.specs.Str.{IsUtf8}
use Rattle.deny_text.specs.Spans.{LiesIn}
use Rattle.deny_text.specs.declared.span.Span.{Span}

-- written as it is, or with its place kept
pub data Bit : Type 0 where
  plain : List ℕ → Bit
  marked : List ℕ → Bit

-- a text, and the places that were kept
pub record PlacedText : Type 0 where
  pub text : List ℕ
  pub spans : List Span

abbrev pub nothing_kept : PlacedText
nothing_kept = record { text = []; spans = [] }

-- the place of what comes after this text
abbrev pub place_behind : List ℕ → List ℕ → Span
place_behind text bytes = record { start = length text; end = length text + length bytes }

-- the text with one more piece
abbrev pub with_piece : PlacedText → Bit → PlacedText
with_piece kept (plain bytes) = record { text = kept.text ++ bytes; spans = kept.spans }
with_piece kept (marked bytes) =
    record { text = kept.text ++ bytes; spans = kept.spans ++ place_behind kept.text bytes ∷ [] }

abbrev pub written_all : PlacedText → List Bit → PlacedText
written_all = fold with_piece

-- what is written of a piece, and what is marked of it
abbrev pub bytes_of : Bit → List ℕ
bytes_of (plain bytes) = bytes
bytes_of (marked bytes) = bytes

abbrev pub marked_of : List Bit → List (List ℕ)
marked_of [] = []
marked_of (plain bytes ∷ rest) = marked_of rest
marked_of (marked bytes ∷ rest) = bytes ∷ marked_of rest

-- what a place cuts out of a text
abbrev pub text_at : List ℕ → Span → List ℕ
text_at text span = take (span.end - span.start) (drop span.start text)

-- both its ends are between characters: what is before each is text
abbrev pub IsBetweenCharacters : List ℕ → Span → Type 0
IsBetweenCharacters text span = IsUtf8 (take span.start text) × IsUtf8 (take span.end text)

-- the kept places of any pieces cut out those that are marked, in order, lie in the text, and are between characters
-- where each piece is text
pub record PlacesCutOut (pieces : List Bit) : Type 0 where
  pub cut_out : map (text_at (written_all nothing_kept pieces).text) (written_all nothing_kept pieces).spans
      ≡ marked_of pieces
  pub inside : All (LiesIn (written_all nothing_kept pieces).text) (written_all nothing_kept pieces).spans
  pub between : All (λ piece. IsUtf8 (bytes_of piece)) pieces
      → All (IsBetweenCharacters (written_all nothing_kept pieces).text) (written_all nothing_kept pieces).spans

abbrev pub PlacesAlwaysCutOut : Type 0
PlacesAlwaysCutOut = (pieces : List Bit) → PlacesCutOut pieces
