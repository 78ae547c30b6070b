-- What a file keeps of its text beside it, so that it is not gone over again.
use Rattle.std.specs.Prelude.{◌≡◌, ℕ, List, Option, IfSome}
use Rattle.std.specs.Option.{ForSome}
use Rattle.deny_text.specs.declared.span.Span.{Span}
use Rattle.deny_text.specs.Spans.{LiesIn}
use Rattle.diag_core.specs.texts.SpanSearch.{license_span_of}
use Rattle.diag_core.specs.declared.line_index.LineIndex.{LineIndex}
use Rattle.diag_core.specs.Blocks.{IsIndexed}

-- what a search for the licence field found in the text
pub record IsFound (text : List ℕ) (found : Option Span) : Type 0 where
  pub value : found ≡ license_span_of text
  pub inside : IfSome found (LiesIn text)

-- an index that is there is that of the text, and so is what a search found that was made
pub record IsKept (index : Option LineIndex) (found : Option (Option Span)) (text : List ℕ) : Type 0 where
  pub indexed : IsIndexed index text
  pub searched : ForSome found (IsFound text)
