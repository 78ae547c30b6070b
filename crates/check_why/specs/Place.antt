-- Places in files, and where the policy allows a term, by what the findings of the check say of places.
use Rattle.std.specs.Prelude.{ℕ, List, [], ◌∷◌, All, Option, Some, None, slice_get}
use Rattle.std.specs.Option.{option_map_or}
use Rattle.deny_text.specs.declared.span.Span.{Span}
use Rattle.spdx_terms.specs.declared.term.ExpressionReq.{ExpressionReq}
use Rattle.spdx_terms.specs.Terms.{req_text}
use Rattle.spdx_core.specs.declared.certificates.verdict.Hit.{Hit}
use Rattle.spdx_core.specs.declared.certificates.verdict.Hit.TheVariants.{Allowed, Exception}
use Rattle.diag_core.specs.declared.label.LabelStyle.TheVariants.{Primary}
use Rattle.diag_core.specs.File.{File}
use Rattle.diag_core.specs.Label.{label_at}
use Rattle.diag_print.specs.Human.{place_text}
use Rattle.diag_print.specs.Places.{LabelIsInside}
use Rattle.policy_parts.specs.declared.entries.licensee.Licensee.{Licensee}
use Rattle.policy_core.specs.declared.valid.policy.ValidConfig.{ValidConfig}
use Rattle.policy_core.specs.declared.valid.policy.ValidException.{ValidException}
use Rattle.check_core.specs.declared.report.ExpressionPlace.{ExpressionPlace}
use Rattle.check_why.specs.declared.answer.TermAnswer.{TermAnswer}
use Rattle.check_why.specs.declared.answer.TermHit.{TermHit}
use Rattle.check_why.specs.declared.answer.TermHit.TheVariants as hit

-- where a place of a file begins, as a label there prints it: the file, the line and the column
abbrev pub place_at : List File → ℕ → Span → List ℕ
place_at files file span = place_text files (label_at Primary file span [])

-- the first byte of an expression, or the string that it was written as, where that has escapes
abbrev pub begin_by : ℕ → Option Span → Span
begin_by offset None = record { start = offset; end = offset }
begin_by offset (Some whole) = whole

abbrev pub begin_of : ExpressionPlace → Span
begin_of place = begin_by place.offset place.whole

-- a place lies in its file, between characters
abbrev pub PlaceIsInside : List File → ℕ → Span → Type 0
PlaceIsInside files file span = LabelIsInside files (label_at Primary file span [])

-- so do those of licensees
abbrev pub LicenseesAreInside : List File → ℕ → List Licensee → Type 0
LicenseesAreInside files file licensees =
    All (λ (licensee : Licensee). PlaceIsInside files file licensee.0.span) licensees

-- where a licensee of a list is; the empty text behind the end
abbrev pub licensee_place : List File → ℕ → List Licensee → ℕ → List ℕ
licensee_place files file licensees entry =
    option_map_or (λ (licensee : Licensee). place_at files file licensee.0.span) (slice_get licensees entry) []

-- an entry of an exception, in the exception's own file
abbrev pub excepted_place : List File → List ValidException → ℕ → ℕ → List ℕ
excepted_place files exceptions exception entry =
    option_map_or (λ (one : ValidException). licensee_place files one.file_id one.allowed entry)
    (slice_get exceptions exception) []

-- the entry that allows a term, with its place
abbrev pub term_hit : List File → ValidConfig → Option Hit → TermHit
term_hit files policy None = hit.NotAllowed
term_hit files policy (Some (Allowed entry)) =
    hit.Allowed (licensee_place files policy.file_id policy.allowed entry)
term_hit files policy (Some (Exception exception entry)) =
    hit.Excepted (excepted_place files policy.exceptions exception entry)

abbrev pub term_answer : List File → ValidConfig → ExpressionReq → Option Hit → TermAnswer
term_answer files policy term one = record { text = req_text term.req; hit = term_hit files policy one }

-- the terms in order, each by its own hit
abbrev pub term_answers : List File → ValidConfig → List ExpressionReq → List (Option Hit) → List TermAnswer
term_answers files policy [] hits = []
term_answers files policy (term ∷ terms) [] = []
term_answers files policy (term ∷ terms) (one ∷ hits) =
    term_answer files policy term one ∷ term_answers files policy terms hits
