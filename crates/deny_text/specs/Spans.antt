-- Where a span lies.
use Rattle.std.specs.Prelude.{ℕ, ◌+◌, ◌≤◌, List, length}
use Rattle.std.specs.Str.{IsCharBoundary}
use Rattle.deny_text.specs.declared.span.Span.{Span}

-- a place that counts from another
abbrev pub moved_span : ℕ → Span → Span
moved_span start inner = record { start = start + inner.start; end = start + inner.end }

-- it lies in a text
abbrev pub LiesIn : List ℕ → Span → Type 0
LiesIn text span = (span.start ≤ span.end) × (span.end ≤ length text)

-- it lies in a text, between characters
pub record LiesBetween (text : List ℕ) (span : Span) : Type 0 where
  pub ordered : span.start ≤ span.end
  pub start_border : IsCharBoundary text span.start
  pub end_border : IsCharBoundary text span.end
