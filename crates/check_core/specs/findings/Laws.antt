-- What holds of the labels of all verdicts.
use Rattle.std.specs.Prelude.{ℕ, List, ◌++◌, slice_range, Option}
use Rattle.std.specs.List.{AllZip}
use Rattle.spdx_terms.specs.declared.term.ExpressionReq.{ExpressionReq}
use Rattle.spdx_core.specs.Expressions.{IsExpression}
use Rattle.spdx_core.specs.Reading.{ExpressionView}
use Rattle.spdx_core.specs.declared.certificates.verdict.Hit.{Hit}
use Rattle.diag_core.specs.File.{File}
use Rattle.gather_core.specs.declared.findings.license.LicenseExprInfo.{LicenseExprInfo}
use Rattle.gather_core.specs.findings.License.{Stands}
use Rattle.check_core.specs.findings.Findings.{term_labels, whole_label}
use Rattle.check_core.specs.findings.Places.{LabelPoints}

-- what a term is written as
abbrev pub term_text : List ℕ → ExpressionReq → List ℕ
term_text text term = slice_range text term.span.start term.span.end

-- The labels of an expression point at it: the first at its whole text, and then one for each term, in text order, at
-- the words of just that term.
pub record LabelsPoint (files : List File) (expression : ExpressionView) (nfo : LicenseExprInfo)
    (hits : List (Option Hit)) : Type 0 where
  pub whole : LabelPoints files nfo expression.text (whole_label nfo expression.text)
  pub terms : AllZip (λ term label. LabelPoints files nfo (term_text expression.text term) label) expression.terms
      (term_labels nfo expression.terms hits)

-- so they do where the expression's text is where it is said to
abbrev pub LabelsAlwaysPoint : Type 0
LabelsAlwaysPoint = (files : List File) (expression : ExpressionView) (nfo : LicenseExprInfo) (hits : List (Option Hit))
    → IsExpression expression.text expression.terms expression.tree → Stands files nfo expression.text
    → LabelsPoint files expression nfo hits

-- a text that is in a table of files is in each longer one
abbrev pub StandsOn : Type 0
StandsOn =
    (files more : List File) (nfo : LicenseExprInfo) (words : List ℕ) → Stands files nfo words
    → Stands (files ++ more) nfo words
