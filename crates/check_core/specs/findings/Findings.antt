-- The verdict on a crate, as a finding.
use Rattle.std.specs.Prelude.{ℕ, Bool, true, false, List, [], ◌∷◌, ◌++◌, map, codes, Option, Some, None}
use Rattle.deny_text.specs.declared.span.Span.{Span}
use Rattle.spdx_terms.specs.declared.term.ExpressionReq.{ExpressionReq}
use Rattle.spdx_core.specs.Reading.{ExpressionView}
use Rattle.spdx_core.specs.declared.certificates.verdict.Hit.{Hit}
use Rattle.spdx_core.specs.declared.certificates.verdict.Hit.TheVariants.{Allowed, Exception}
use Rattle.graph_core.specs.Krate.{CrateRecord, title_of}
use Rattle.diag_core.specs.declared.code.DiagnosticCode.TheVariants.{License}
use Rattle.diag_core.specs.declared.label.Label.{Label}
use Rattle.diag_core.specs.declared.label.LabelStyle.TheVariants.{Primary, Secondary}
use Rattle.diag_core.specs.declared.licenses.Code.{Code}
use Rattle.diag_core.specs.declared.licenses.Code.TheVariants as code
use Rattle.diag_core.specs.declared.pack.Check.TheVariants as check
use Rattle.diag_core.specs.declared.pack.Diag.{Diag}
use Rattle.diag_core.specs.declared.severity.Severity.{Severity}
use Rattle.diag_core.specs.declared.severity.Severity.TheVariants.{Note, Error}
use Rattle.diag_core.specs.Code.{code_name}
use Rattle.diag_core.specs.Label.{heap, label_at}
use Rattle.diag_core.specs.Pack.{PackOf, with_crate}
use Rattle.gather_core.specs.declared.findings.license.LicenseExprInfo.{LicenseExprInfo}
use Rattle.check_core.specs.findings.Places.{all_of, span_in_file}
use Rattle.check_core.specs.findings.Sources.{source_text}

-- what the licence check tells, about no crate yet
abbrev pub finding : Severity → Code → List ℕ → List Label → List (List ℕ) → Diag
finding severity code message labels notes = record {
  diag = record {
    severity = severity;
    code = Some (code_name (License code));
    message = message;
    labels = labels;
    notes = notes;
    alloc = heap;
  };
  code = Some (License code);
  graph_nodes = [];
  with_features = false;
}

-- ---- labels

-- what is said of a term, by what allows it
abbrev pub hit_text : Option Hit → List ℕ
hit_text (Some (Allowed entry)) = codes "accepted: license is explicitly allowed"
hit_text (Some (Exception exception entry)) = codes "accepted: allowed by exception"
hit_text None = codes "rejected: license is not explicitly allowed"

abbrev pub term_label : LicenseExprInfo → Span → Option Hit → Label
term_label nfo span hit = label_at Primary nfo.file_id (span_in_file nfo span) (hit_text hit)

-- one for each term, in text order, by its own hit; a term behind the end of the hits has none
abbrev pub term_labels : LicenseExprInfo → List ExpressionReq → List (Option Hit) → List Label
term_labels nfo [] hits = []
term_labels nfo (term ∷ terms) [] = term_label nfo term.span None ∷ term_labels nfo terms []
term_labels nfo (term ∷ terms) (hit ∷ hits) = term_label nfo term.span hit ∷ term_labels nfo terms hits

-- the whole expression, and where it comes from
abbrev pub whole_label : LicenseExprInfo → List ℕ → Label
whole_label nfo words =
    label_at Secondary nfo.file_id (span_in_file nfo (all_of words))
    (codes "license expression retrieved via " ++ source_text nfo.source)

abbrev pub verdict_labels : ExpressionView → LicenseExprInfo → List (Option Hit) → List Label
verdict_labels expression nfo hits = whole_label nfo expression.text ∷ term_labels nfo expression.terms hits

-- ---- findings

-- The expression is accepted or not. The labels are the same, and tell each term by its own hit: an accepted expression
-- may have terms that are not allowed.
abbrev pub expression_finding : Bool → List Label → List (List ℕ) → Diag
expression_finding true labels notes = finding Note code.Accepted (codes "license requirements satisfied") labels notes
expression_finding false labels notes =
    finding Error code.Rejected (codes "failed to satisfy license requirements") labels notes

-- the crate has no expression
abbrev pub unlicensed_finding : CrateRecord → List (List ℕ) → Diag
unlicensed_finding krate notes = finding Error code.Unlicensed (title_of krate ++ codes " is unlicensed") [] notes

-- the policy passes the crate over
abbrev pub skipped_finding : CrateRecord → Diag
skipped_finding krate =
    finding Note code.SkippedPrivateWorkspaceCrate
    (codes "skipping private workspace crate '" ++ title_of krate ++ codes "'") [] []

-- ---- the pack of a crate

-- findings of the licence check about a crate; those that name no crate are about it
abbrev pub pack_of : CrateRecord → List Diag → PackOf
pack_of krate findings =
    record { check = check.Licenses; kid = Some krate.id; findings = map (with_crate (Some krate.id)) findings }
