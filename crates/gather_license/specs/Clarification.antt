-- Clarifications that are for a crate.
use Rattle.std.specs.Prelude.{ℕ, Bool, List, map, slice_get, Option, option_and_then, option_map, refl}
use Rattle.std.specs.Borrow.{Bor}
use Rattle.std.specs.Coded.{Coded, code_by, coded×, coded_ℕ, coded_bool, coded_list, coded_option}
use Rattle.deny_text.specs.contracts.span.Span as spans
use Rattle.deny_text.specs.declared.span.Span.{Span}
use Rattle.diag_core.specs.declared.label.Coord.{Coord}
use Rattle.spdx_core.specs.ExpressionCode.{expression_code}
use Rattle.spdx_core.specs.Reading.{ExpressionView}
use Rattle.gather_license.specs.files.NamedFile.{NamedFileView}
use Rattle.gather_license.specs.location.Location.{coord_at}
use Rattle.gather_license.specs.declared.clarification.HeldClarification.{HeldClarification}

-- a file that a clarification names, and the place of its path in the clarification's file
pub record PlacedFile : Type 0 where
  pub named : NamedFileView
  pub span : Span

-- The expression that a policy gives a crate, its file, whether that is the exceptions file, where the expression is
-- there, and the files that have to have their hashes. The text begins at the offset; of a string with escapes the
-- whole place is reported.
pub record ClarificationView : Type 0 where
  pub expression : ExpressionView
  pub file : ℕ
  pub overlay : Bool
  pub offset : ℕ
  pub whole : Option Span
  pub files : List PlacedFile

abbrev pub named_in : ClarificationView → List NamedFileView
named_in clarification = map (λ file. file.named) clarification.files

abbrev pub named_files : List ClarificationView → List (List NamedFileView)
named_files clarifications = map named_in clarifications

-- what is taken of one that holds
abbrev pub held_in : ClarificationView → HeldClarification
held_in clarification = record {
  expression = clarification.expression;
  file = clarification.file;
  overlay = clarification.overlay;
  offset = clarification.offset;
  whole = clarification.whole;
}

abbrev pub span_at : List PlacedFile → ℕ → Option Span
span_at files number = option_map (λ file. file.span) (slice_get files number)

-- the place of the path of the file of a number, in the clarification's file
abbrev pub place_of : ClarificationView → Option ℕ → Option Coord
place_of clarification number =
    option_map (coord_at clarification.file) (option_and_then (span_at clarification.files) number)

-- one that is lent
abbrev pub lent_clarification : Bor ClarificationView → ClarificationView
lent_clarification clarification = clarification.now

-- a clarification is distinguished by its parts
abbrev pub placed_code : Coded PlacedFile
placed_code =
    code_by (List ℕ × (ℕ × Span)) (coded× (coded_list coded_ℕ) (coded× coded_ℕ spans.the_row.coded))
    (λ f. (f.named.path, (f.named.hash, f.span)))
    (λ p. record { named = record { path = p.0; hash = p.1.0 }; span = p.1.1 }) (λ _. refl)

abbrev pub clarification_code : Coded ClarificationView
clarification_code =
    code_by (ExpressionView × ((ℕ × Bool) × (ℕ × (Option Span × List PlacedFile))))
    (coded× expression_code (coded× (coded× coded_ℕ coded_bool)
    (coded× coded_ℕ (coded× (coded_option spans.the_row.coded) (coded_list placed_code)))))
    (λ c. (c.expression, ((c.file, c.overlay), (c.offset, (c.whole, c.files)))))
    (λ p. record {
      expression = p.0;
      file = p.1.0.0;
      overlay = p.1.0.1;
      offset = p.1.1.0;
      whole = p.1.1.1.0;
      files = p.1.1.1.1;
    }) (λ _. refl)
