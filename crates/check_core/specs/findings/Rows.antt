-- Rows of expressions and crates, with what is reported of them, worked out by hand from the rules.
use Rattle.std.specs.Prelude.{ℕ, true, false, List, [], ◌∷◌, codes, Option, Some, None}
use Rattle.deny_text.specs.declared.span.Span.{Span}
use Rattle.spdx_terms.specs.declared.term.ExpressionReq.{ExpressionReq}
use Rattle.spdx_terms.specs.declared.term.LicenseItem.TheVariants.{Spdx}
use Rattle.spdx_core.specs.Grammar.{leaf, both, either}
use Rattle.spdx_core.specs.Reading.{ExpressionView}
use Rattle.spdx_core.specs.declared.certificates.verdict.Hit.{Hit}
use Rattle.spdx_core.specs.declared.certificates.verdict.Hit.TheVariants.{Allowed, Exception}
use Rattle.graph_core.specs.Krate.{CrateRecord}
use Rattle.diag_core.specs.declared.label.Label.{Label}
use Rattle.diag_core.specs.declared.label.LabelStyle.{LabelStyle}
use Rattle.diag_core.specs.declared.label.LabelStyle.TheVariants.{Primary, Secondary}
use Rattle.diag_core.specs.declared.severity.Severity.{Severity}
use Rattle.diag_core.specs.declared.severity.Severity.TheVariants.{Note, Error}
use Rattle.diag_core.specs.declared.pack.Diag.{Diag}
use Rattle.diag_core.specs.Label.{label_at}
use Rattle.gather_core.specs.declared.findings.license.LicenseExprInfo.{LicenseExprInfo}
use Rattle.gather_core.specs.declared.findings.license.LicenseExprSource.{LicenseExprSource}
use Rattle.gather_core.specs.declared.findings.license.LicenseExprSource.TheVariants.{Metadata, UserOverride}
use Rattle.gather_core.specs.declared.findings.license.LicenseExprSource.TheVariants.{OverlayOverride, LicenseFiles}
use Rattle.check_core.specs.findings.Findings.{expression_finding, verdict_labels, skipped_finding, unlicensed_finding}
use Rattle.check_core.specs.findings.Sources.{source_text}

-- ---- sources in words

pub record SourceRow : Type 0 where
  pub source : LicenseExprSource
  pub text : List ℕ

abbrev pub row_with_text : SourceRow → SourceRow
row_with_text row = record { source = row.source; text = source_text row.source }

abbrev source_row : LicenseExprSource → List ℕ → SourceRow
source_row source text = record { source = source; text = text }

abbrev pub source_rows : List SourceRow
source_rows =
    source_row (Metadata None) (codes "Cargo.toml `license`")
    ∷ source_row UserOverride (codes "user override")
    ∷ source_row OverlayOverride (codes "overlay override")
    ∷ source_row (LicenseFiles (codes "COPYING" ∷ [])) (codes "license files: COPYING")
    ∷ source_row (LicenseFiles (codes "COPYING" ∷ codes "a/LICENSE" ∷ codes "b" ∷ []))
    (codes "license files: COPYING, a/LICENSE, b")
    ∷ []

-- ---- labels

abbrev from_to : ℕ → ℕ → Span
from_to start end = record { start = start; end = end }

abbrev term : List ℕ → ℕ → ℕ → ℕ → ExpressionReq
term name family start end =
    record { req = record { item = Spdx name family 0 false false; exception = None }; span = from_to start end }

abbrev mit : ExpressionView
mit = record { text = codes "MIT"; terms = term (codes "MIT") 1 0 3 ∷ []; tree = leaf 0 }

abbrev slash : ExpressionView
slash = record {
  text = codes "Apache-2.0/MIT";
  terms = term (codes "Apache-2.0") 2 0 10 ∷ term (codes "MIT") 1 11 14 ∷ [];
  tree = either (leaf 0) (leaf 1);
}

abbrev both_of : ExpressionView
both_of = record {
  text = codes "MIT AND ISC";
  terms = term (codes "MIT") 1 0 3 ∷ term (codes "ISC") 3 8 11 ∷ [];
  tree = both (leaf 0) (leaf 1);
}

-- in the first file, from a byte on
abbrev at_byte : ℕ → LicenseExprSource → LicenseExprInfo
at_byte offset source = record { file_id = 0; offset = offset; whole = None; source = source }

-- in the second file, as a string with escapes
abbrev escaped_expression : ℕ → ℕ → LicenseExprSource → LicenseExprInfo
escaped_expression start end source =
    record { file_id = 1; offset = start; whole = Some (from_to start end); source = source }

-- a label without the file
pub record LabelSpan : Type 0 where
  pub style : LabelStyle
  pub start : ℕ
  pub end : ℕ
  pub message : List ℕ

abbrev label_span : LabelStyle → ℕ → ℕ → List ℕ → LabelSpan
label_span style start end message = record { style = style; start = start; end = end; message = message }

abbrev all_seen : ℕ → List LabelSpan → List Label
all_seen file [] = []
all_seen file (one ∷ more) = label_at one.style file (from_to one.start one.end) one.message ∷ all_seen file more

pub record LabelRow : Type 0 where
  pub expression : ExpressionView
  pub nfo : LicenseExprInfo
  pub hits : List (Option Hit)
  pub labels : List Label

-- what the definition makes of a row
abbrev pub row_with_labels : LabelRow → LabelRow
row_with_labels row = record {
  expression = row.expression;
  nfo = row.nfo;
  hits = row.hits;
  labels = verdict_labels row.expression row.nfo row.hits;
}

abbrev row : LicenseExprInfo → ExpressionView → List (Option Hit) → List LabelSpan → LabelRow
row nfo expression hits labels =
    record { expression = expression; nfo = nfo; hits = hits; labels = all_seen nfo.file_id labels }

abbrev allowed_text : List ℕ
allowed_text = codes "accepted: license is explicitly allowed"

abbrev excepted_text : List ℕ
excepted_text = codes "accepted: allowed by exception"

abbrev not_allowed : List ℕ
not_allowed = codes "rejected: license is not explicitly allowed"

abbrev manifest : LicenseExprSource
manifest = Metadata None

abbrev pub label_rows : List LabelRow
label_rows =
    -- the field of a manifest, whose text begins at byte 50
    row (at_byte 50 manifest) mit (Some (Allowed 0) ∷ [])
    (label_span Secondary 50 53 (codes "license expression retrieved via Cargo.toml `license`")
    ∷ label_span Primary 50 53 allowed_text ∷ [])
    ∷ row (at_byte 50 manifest) mit (None ∷ [])
    (label_span Secondary 50 53 (codes "license expression retrieved via Cargo.toml `license`")
    ∷ label_span Primary 50 53 not_allowed ∷ [])
    -- an accepted expression has a term that is not allowed
    ∷ row (at_byte 50 manifest) slash (None ∷ Some (Allowed 0) ∷ [])
    (label_span Secondary 50 64 (codes "license expression retrieved via Cargo.toml `license`")
    ∷ label_span Primary 50 60 not_allowed ∷ label_span Primary 61 64 allowed_text ∷ [])
    -- at the start of a file, by an exception
    ∷ row (at_byte 0 UserOverride) both_of (Some (Exception 2 1) ∷ Some (Allowed 3) ∷ [])
    (label_span Secondary 0 11 (codes "license expression retrieved via user override")
    ∷ label_span Primary 0 3 excepted_text ∷ label_span Primary 8 11 allowed_text ∷ [])
    -- written with escapes: each label is the whole string
    ∷ row (escaped_expression 30 38 UserOverride) both_of (None ∷ Some (Exception 0 0) ∷ [])
    (label_span Secondary 30 38 (codes "license expression retrieved via user override")
    ∷ label_span Primary 30 38 not_allowed ∷ label_span Primary 30 38 excepted_text ∷ [])
    -- a term behind the end of the hits has none
    ∷ row (at_byte 7 (LicenseFiles (codes "COPYING" ∷ codes "LICENSE" ∷ []))) both_of (Some (Allowed 0) ∷ [])
    (label_span Secondary 7 18 (codes "license expression retrieved via license files: COPYING, LICENSE")
    ∷ label_span Primary 7 10 allowed_text ∷ label_span Primary 15 18 not_allowed ∷ [])
    ∷ []

-- ---- findings

abbrev pub crate_a : CrateRecord
crate_a = record {
  name = codes "a";
  id = codes "a 1.0.0";
  version = (1, 0, 0, [], []);
  source = None;
  authors = [];
  repository = None;
  description = None;
  manifest_path = codes "/w/Cargo.toml";
  license = None;
  license_file = None;
  features = [];
  publish = None;
  rust_version = None;
}

-- what a finding says, without its labels
pub record FindingText : Type 0 where
  pub severity : Severity
  pub code : Option (List ℕ)
  pub message : List ℕ
  pub notes : List (List ℕ)

abbrev said_by : Diag → FindingText
said_by told = record {
  severity = told.diag.severity;
  code = told.diag.code;
  message = told.diag.message;
  notes = told.diag.notes;
}

abbrev finding_text : Severity → List ℕ → List ℕ → List (List ℕ) → FindingText
finding_text severity code message notes =
    record { severity = severity; code = Some code; message = message; notes = notes }

abbrev pub findings_said : List FindingText
findings_said =
    said_by (expression_finding true [] (codes "a note" ∷ codes "another" ∷ []))
    ∷ said_by (expression_finding false [] [])
    ∷ said_by (unlicensed_finding crate_a (codes "a note" ∷ []))
    ∷ said_by (skipped_finding crate_a)
    ∷ []

abbrev pub findings_meant : List FindingText
findings_meant =
    finding_text Note (codes "accepted") (codes "license requirements satisfied")
    (codes "a note" ∷ codes "another" ∷ [])
    ∷ finding_text Error (codes "rejected") (codes "failed to satisfy license requirements") []
    ∷ finding_text Error (codes "unlicensed") (codes "a = 1.0.0 is unlicensed") (codes "a note" ∷ [])
    ∷ finding_text Note (codes "skipped-private-workspace-crate")
    (codes "skipping private workspace crate 'a = 1.0.0'") []
    ∷ []
