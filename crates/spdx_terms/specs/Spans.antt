-- Spans that follow one another in a text.
use Rattle.std.specs.Prelude.{ℕ, ◌<◌, ◌≤◌, IsTrue, List, [], ◌∷◌, length, get_or}
use Rattle.std.specs.Str.{IsCharBoundary}
use Rattle.deny_text.specs.declared.span.Span.{Span}
use Rattle.spdx_terms.specs.Tokens.{is_white}

-- from a place on and up to another, each span lies behind the one before, is not empty, and stands on character
-- borders
pub record LiesFrom (text : List ℕ) (place : ℕ) (span : Span) : Type 0 where
  pub behind : place ≤ span.start
  pub some : span.start < span.end
  pub start_border : IsCharBoundary text span.start
  pub end_border : IsCharBoundary text span.end

abbrev pub Rise : List ℕ → ℕ → List Span → ℕ → Type 0
Rise text place [] end = place ≤ end
Rise text place (span ∷ spans) end = LiesFrom text place span × Rise text span.end spans end

-- each byte from a place up to another is white space
abbrev pub IsWhite : List ℕ → ℕ → ℕ → Type 0
IsWhite text start end = (place : ℕ) → start ≤ place → place < end → IsTrue (is_white (get_or text place 0))

-- from a place on, white space alone is before these spans, between them, and behind them
abbrev pub WhiteBetween : List ℕ → ℕ → List Span → Type 0
WhiteBetween text place [] = IsWhite text place (length text)
WhiteBetween text place (span ∷ spans) = IsWhite text place span.start × WhiteBetween text span.end spans
