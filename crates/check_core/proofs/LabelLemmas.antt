-- Labels lie in their files.
use Rattle.std.proofs.Common.{◌≡◌, ◌∙◌, refl, sym, ap, subst, ℕ, zero, suc, ◌+◌, ◌<◌, Bool, true, false, List, [], ◌∷◌, ◌++◌, length, map, take, Option, Some, None, Result, Ok, Err, IfOk, arith}
use Rattle.std.specs.Prelude.{OnErr, unwrap_or}
use Rattle.std.specs.List.{All, AllByRecursion, AllZip}
use Rattle.std.specs.Str.{IsCharBoundary}
use Rattle.std.proofs.lemmas.List.{take-map}
use Rattle.std.proofs.lemmas.List.Elements.{All-from_recursion, All-map, All-nil, All-push, All-take, All-weaker, recursion_from_All}
use Rattle.deny_text.specs.declared.span.Span.{Span}
use Rattle.spdx_terms.specs.declared.term.ExpressionReq.{ExpressionReq}
use Rattle.graph_core.specs.Krate.{CrateRecord}
use Rattle.spdx_core.specs.declared.certificates.verdict.Verdict.{Verdict}
use Rattle.diag_core.specs.declared.label.Label.{Label}
use Rattle.diag_core.specs.declared.overrides.DiagnosticOverrides.{DiagnosticOverrides}
use Rattle.diag_core.specs.declared.overrides.ErrorSink.{ErrorSink}
use Rattle.diag_core.specs.declared.pack.Diag.{Diag}
use Rattle.diag_core.specs.File.{File, source_of_file}
use Rattle.diag_core.specs.Overrides.{finding_at_level, pack_overridden}
use Rattle.diag_core.specs.Pack.{PackOf, with_crate}
use Rattle.gather_core.specs.findings.Cuts.{LabelLies, labels_of}
use Rattle.gather_core.specs.findings.License.{InfoStands, PlaceLies, StandsIn}
use Rattle.gather_core.specs.declared.findings.license.LicenseExprInfo.{LicenseExprInfo}
use Rattle.gather_core.specs.declared.findings.license.LicenseInfo.{LicenseInfo}
use Rattle.gather_core.specs.declared.findings.license.LicenseInfo.TheVariants.{SpdxExpression, Unlicensed}
use Rattle.gather_core.specs.declared.summary.KrateLicense.{KrateLicense}
use Rattle.gather_core.specs.Premises.{IsPlacedAt}
use Rattle.policy_core.specs.declared.valid.policy.ValidConfig.{ValidConfig}
use Rattle.policy_core.specs.valid.Policy.{Policy}
use Rattle.policy_core.specs.valid.View.{policy_of}
use Rattle.check_core.specs.evaluate.Evaluation.{is_allowed, term_hits}
use Rattle.check_core.specs.unused.Laws.{EntriesLie, EntryLabelsLie}
use Rattle.check_core.specs.unused.Unused.{last_pack, unused_findings}
use Rattle.check_core.proofs.unused.LawLemmas.{labels_lie}
use Rattle.check_core.specs.findings.Findings as findings
use Rattle.check_core.specs.findings.Laws.{term_text}
use Rattle.check_core.specs.findings.Places.{FitsBy, LabelPoints, PointsBy}
use Rattle.check_core.proofs.findings.PointLemmas.{labels_point}
use Rattle.check_core.specs.Check.{HasFront, all_hits, findings_of, sink_with_packs, packs_of}
use Rattle.check_core.specs.Labels.{FindingLies, GainLies, InfoPoints, PackLies, VerdictPoints}
use Rattle.check_core.specs.declared.report.CrateReport.{CrateReport}
use Rattle.check_core.specs.Reports.{verdicts_of}
use Rattle.check_core.specs.Summary.{InfoFits, IsExpressionIn, gathered_of_licenses, gathered_of_license}
use Rattle.check_core.specs.Turns.{GatheredCrate, findings_by, pack_by, verdict_finding}
use Rattle.check_core.specs.Verdicts.{is_skipped}

-- ---- a label

is_live : (files : List File) (id : ℕ) (source : List ℕ) → source_of_file files id ≡ Some source → id < length files
is_live [] zero source is = absurd (cc is)
is_live [] (suc id) source is = absurd (cc is)
is_live (file ∷ files) zero source is = omega arith
is_live (file ∷ files) (suc id) source is = let below : id < length files = is_live files id source is in omega arith

lies_in : (files : List File) (file : ℕ) (label : Label) → label.file_id ≡ file → PlaceLies files file label.range → LabelLies files label
lies_in files file label of_file lies =
    let is : source_of_file files label.file_id ≡ Some lies.source = ap (source_of_file files) of_file ∙ lies.is_source in
    let text : unwrap_or (source_of_file files label.file_id) [] ≡ lies.source = ap (λ (source : Option (List ℕ)). unwrap_or source []) is in
    record {
      live = is_live files label.file_id lies.source is;
      ordered = lies.ordered;
      starts = subst (λ (source : List ℕ). IsCharBoundary source label.range.start) (sym text) lies.starts;
      ends = subst (λ (source : List ℕ). IsCharBoundary source label.range.end) (sym text) lies.ends;
    }

in_file : (files : List File) (file : ℕ) (span : Span) (part : List ℕ) (whole : Option Span) → PointsBy files file span part whole → PlaceLies files file span
in_file files file span part None points =
    record { source = points.source; is_source = points.is_source; ordered = points.cuts.ordered; starts = points.cuts.starts; ends = points.cuts.ends }
in_file files file span part (Some whole) points = points.0

pub pointing_lies : (files : List File) (nfo : LicenseExprInfo) (part : List ℕ) (label : Label) → LabelPoints files nfo part label → LabelLies files label
pointing_lies files nfo part label points = lies_in files nfo.file_id label points.of_file (in_file files nfo.file_id label.range part nfo.whole points.points)

-- ---- the labels of an expression

terms_lie : (files : List File) (nfo : LicenseExprInfo) (text : List ℕ) (terms : List ExpressionReq) (labels : List Label)
    → AllZip (λ (term : ExpressionReq) (label : Label). LabelPoints files nfo (term_text text term) label) terms labels → AllByRecursion (LabelLies files) labels
terms_lie files nfo text [] [] points = tt
terms_lie files nfo text [] (label ∷ labels) points = absurd points
terms_lie files nfo text (term ∷ terms) [] points = absurd points
terms_lie files nfo text (term ∷ terms) (label ∷ labels) points =
    (pointing_lies files nfo (term_text text term) label points.0, terms_lie files nfo text terms labels points.1)

judged_lies : (files : List File) (accepted : Bool) (labels : List Label) (notes : List (List ℕ)) → All (LabelLies files) labels → FindingLies files (findings.expression_finding accepted labels notes)
judged_lies files true labels notes lie = lie
judged_lies files false labels notes lie = lie

verdict_lies : (files : List File) (policy : Policy) (krate : CrateRecord) (counted : List ℕ) (info : LicenseInfo) (notes : List (List ℕ)) → InfoPoints files policy counted info
    → FindingLies files (verdict_finding policy krate counted info notes)
verdict_lies files policy krate counted Unlicensed notes points = All-nil (LabelLies files)
verdict_lies files policy krate counted (SpdxExpression expression nfo) notes points =
    let kept = term_hits policy counted expression.terms in
    judged_lies files (is_allowed policy counted expression.terms expression.tree) (findings.verdict_labels expression nfo kept) notes
    (All-from_recursion (LabelLies files) (findings.verdict_labels expression nfo kept) (
      pointing_lies files nfo expression.text (findings.whole_label nfo expression.text) points.whole,
      terms_lie files nfo expression.text expression.terms (findings.term_labels nfo expression.terms kept) points.terms,
    ))

-- ---- what was gathered

first_part : {A : Type 0} (P : A → Type 0) (front rest : List A) → AllByRecursion P (front ++ rest) → AllByRecursion P front
first_part P [] rest all = tt
first_part P (x ∷ front) rest all = (all.0, first_part P front rest all.1)

last_part : {A : Type 0} (P : A → Type 0) (front rest : List A) → AllByRecursion P (front ++ rest) → AllByRecursion P rest
last_part P [] rest all = all
last_part P (x ∷ front) rest all = last_part P front rest all.1

each_lies : (files : List File) (gathered : List Diag) → AllByRecursion (LabelLies files) (labels_of gathered) → AllByRecursion (FindingLies files) gathered
each_lies files [] all = tt
each_lies files (finding ∷ gathered) all = (
  All-from_recursion (LabelLies files) finding.diag.labels (first_part (LabelLies files) finding.diag.labels (labels_of gathered) all),
  each_lies files gathered (last_part (LabelLies files) finding.diag.labels (labels_of gathered) all),
)

gathered_lies : (files : List File) (gathered : List Diag) → All (LabelLies files) (labels_of gathered) → All (FindingLies files) gathered
gathered_lies files gathered all =
    All-from_recursion (FindingLies files) gathered (each_lies files gathered (recursion_from_All (LabelLies files) (labels_of gathered) all))

-- ---- packs

findings_lie : (files : List File) (policy : Policy) (asked : GatheredCrate) (private : Bool) → All (LabelLies files) (labels_of asked.gathered) → VerdictPoints files policy asked
    → All (FindingLies files) (findings_by private policy asked)
findings_lie files policy asked true lie points =
    All-from_recursion (FindingLies files) (findings.skipped_finding asked.krate ∷ []) (All-nil (LabelLies files), tt)
findings_lie files policy asked false lie points =
    All-push (FindingLies files) asked.gathered (verdict_finding policy asked.krate asked.exceptions asked.info asked.notes) (gathered_lies files asked.gathered lie)
    (verdict_lies files policy asked.krate asked.exceptions asked.info asked.notes points)

pack_lies : (files : List File) (policy : Policy) (asked : GatheredCrate) (private : Bool) → All (LabelLies files) (labels_of asked.gathered) → VerdictPoints files policy asked
    → PackLies files (pack_by private policy asked)
pack_lies files policy asked private lie points =
    All-map (FindingLies files) (with_crate (Some asked.krate.id)) (findings_by private policy asked) (findings_lie files policy asked private lie points)

packs_lie : (files : List File) (policy : Policy) (licenses : List KrateLicense) (verdicts : List Verdict) → AllByRecursion (IsPlacedAt files) licenses
    → AllByRecursion (VerdictPoints files policy) (gathered_of_licenses licenses) → AllByRecursion (PackLies files) (packs_of policy (gathered_of_licenses licenses) verdicts)
packs_lie files policy [] verdicts placed points = tt
packs_lie files policy (license ∷ licenses) [] placed points = tt
packs_lie files policy (license ∷ licenses) (verdict ∷ verdicts) placed points =
    (pack_lies files policy (gathered_of_license license) (is_skipped verdict) placed.0.labels points.0, packs_lie files policy licenses verdicts placed.1 points.1)

-- ---- the last pack

labels_each : (files : List File) (labels : List Label) → AllByRecursion (λ (label : Label). PlaceLies files label.file_id label.range) labels → AllByRecursion (LabelLies files) labels
labels_each files [] all = tt
labels_each files (label ∷ labels) all = (lies_in files label.file_id label refl all.0, labels_each files labels all.1)

unused_each : (files : List File) (told : List Diag) → AllByRecursion (EntryLabelsLie files) told → AllByRecursion (FindingLies files) told
unused_each files [] all = tt
unused_each files (finding ∷ told) all =
    (All-from_recursion (LabelLies files) finding.diag.labels (labels_each files finding.diag.labels all.0), unused_each files told all.1)

last_lies : (files : List File) (policy : ValidConfig) (licenses : List KrateLicense) (verdicts : List Verdict) → EntriesLie files policy
    → PackLies files (last_pack policy (all_hits (policy_of policy) (gathered_of_licenses licenses) verdicts))
last_lies files policy licenses verdicts lie =
    let hits = all_hits (policy_of policy) (gathered_of_licenses licenses) verdicts in
    All-from_recursion (FindingLies files) (unused_findings policy hits) (unused_each files (unused_findings policy hits) (labels_lie files policy hits lie))

-- ---- what a sink gains

at_level : (files : List File) (overrides : Option DiagnosticOverrides) (pack : PackOf) → PackLies files pack → PackLies files (pack_overridden overrides pack)
at_level files None pack lies = lies
at_level files (Some overrides) pack lies = All-map (FindingLies files) (finding_at_level overrides) pack.findings lies

gain : (files : List File) (old new : ErrorSink) (packs : List PackOf) → new ≡ sink_with_packs old packs → All (PackLies files) packs → GainLies files old new
gain files old new packs is lie =
    let over = pack_overridden old.overrides in (
      map over packs,
      ap (λ (sink : ErrorSink). sink.packs) is,
      All-map (PackLies files) over packs (All-weaker (PackLies files) (λ (pack : PackOf). PackLies files (over pack)) (λ pack lies. at_level files old.overrides pack lies) packs lie),
    )

module _ (files : List File) (policy : ValidConfig) (licenses : List KrateLicense) (placed : All (IsPlacedAt files) licenses)
    (points : All (VerdictPoints files (policy_of policy)) (gathered_of_licenses licenses)) where
  all_lie : (verdicts : List Verdict) → All (PackLies files) (packs_of (policy_of policy) (gathered_of_licenses licenses) verdicts)
  all_lie verdicts =
      All-from_recursion (PackLies files) (packs_of (policy_of policy) (gathered_of_licenses licenses) verdicts)
      (packs_lie files (policy_of policy) licenses verdicts (recursion_from_All (IsPlacedAt files) licenses placed)
      (recursion_from_All (VerdictPoints files (policy_of policy)) (gathered_of_licenses licenses) points))

  -- of all packs
  pub whole_gain : (old new : ErrorSink) (verdicts : List Verdict) → new ≡ sink_with_packs old (findings_of policy (gathered_of_licenses licenses) verdicts) → EntriesLie files policy → GainLies files old new
  whole_gain old new verdicts is lie =
      let packs = packs_of (policy_of policy) (gathered_of_licenses licenses) verdicts in
      let last = last_pack policy (all_hits (policy_of policy) (gathered_of_licenses licenses) verdicts) in
      gain files old new (packs ++ last ∷ []) is (All-push (PackLies files) packs last (all_lie verdicts) (last_lies files policy licenses verdicts lie))

  -- of those of some crates alone
  pub part_gain : (old new : ErrorSink) (verdicts : List Verdict) → new ≡ sink_with_packs old (packs_of (policy_of policy) (gathered_of_licenses licenses) verdicts) → GainLies files old new
  part_gain old new verdicts is = gain files old new (packs_of (policy_of policy) (gathered_of_licenses licenses) verdicts) is (all_lie verdicts)

-- of those of some first crates
pub front_gain : (files : List File) (policy : ValidConfig) (licenses : List KrateLicense) (old new : ErrorSink) → All (IsPlacedAt files) licenses
    → All (VerdictPoints files (policy_of policy)) (gathered_of_licenses licenses) → HasFront (policy_of policy) licenses old new → GainLies files old new
front_gain files policy licenses old new placed points front =
    part_gain files policy (take front.count licenses) (All-take (IsPlacedAt files) front.count licenses placed)
    (subst (λ (asked : List GatheredCrate). All (VerdictPoints files (policy_of policy)) asked) (take-map gathered_of_license front.count licenses)
    (All-take (VerdictPoints files (policy_of policy)) front.count (gathered_of_licenses licenses) points)) old new front.verdicts front.front

-- after any answer
pub any_gain : {E : Type 0} (files : List File) (policy : ValidConfig) (licenses : List KrateLicense) (old new : ErrorSink) (result : Result (List CrateReport) E) → All (IsPlacedAt files) licenses
    → All (VerdictPoints files (policy_of policy)) (gathered_of_licenses licenses) → IfOk result (λ reports. new ≡ sink_with_packs old (findings_of policy (gathered_of_licenses licenses) (verdicts_of reports)))
    → OnErr result (HasFront (policy_of policy) licenses old new) → EntriesLie files policy → GainLies files old new
any_gain files policy licenses old new (Ok reports) placed points packs front lie = whole_gain files policy licenses placed points old new (verdicts_of reports) packs lie
any_gain files policy licenses old new (Err error) placed points packs front lie = front_gain files policy licenses old new placed points front

-- ---- where an expression is

fits_by : (files : List File) (file start : ℕ) (text : List ℕ) (whole : Option Span) → StandsIn files file start whole text → FitsBy (start + length text) whole
fits_by files file start text None stands = stands.fits
fits_by files file start text (Some whole) stands = tt

info_fits : (files : List File) (info : LicenseInfo) → InfoStands files info → InfoFits info
info_fits files Unlicensed stands = tt
info_fits files (SpdxExpression expression nfo) stands = fits_by files nfo.file_id nfo.offset expression.text nfo.whole stands

-- each place of each expression is one of 64 bits
pub all_fit : (files : List File) (licenses : List KrateLicense) → All (IsPlacedAt files) licenses → All (λ (license : KrateLicense). InfoFits license.lic_info) licenses
all_fit files licenses placed =
    All-weaker (IsPlacedAt files) (λ (license : KrateLicense). InfoFits license.lic_info) (λ license placed. info_fits files license.lic_info placed.expression) licenses placed

info_points : (files : List File) (policy : Policy) (counted : List ℕ) (info : LicenseInfo) → IsExpressionIn info → InfoStands files info → InfoPoints files policy counted info
info_points files policy counted Unlicensed facts stands = tt
info_points files policy counted (SpdxExpression expression nfo) facts stands = labels_point files expression nfo (term_hits policy counted expression.terms) facts stands

each_points : (files : List File) (policy : Policy) (licenses : List KrateLicense) → AllByRecursion (λ (license : KrateLicense). IsExpressionIn license.lic_info) licenses
    → AllByRecursion (IsPlacedAt files) licenses → AllByRecursion (VerdictPoints files policy) (gathered_of_licenses licenses)
each_points files policy [] facts placed = tt
each_points files policy (license ∷ licenses) facts placed =
    (info_points files policy license.exceptions license.lic_info facts.0 placed.0.expression, each_points files policy licenses facts.1 placed.1)

-- the labels of each verdict point at its expression
pub all_point : (files : List File) (policy : Policy) (licenses : List KrateLicense) → All (λ (license : KrateLicense). IsExpressionIn license.lic_info) licenses
    → All (IsPlacedAt files) licenses → All (VerdictPoints files policy) (gathered_of_licenses licenses)
all_point files policy licenses facts placed =
    All-from_recursion (VerdictPoints files policy) (gathered_of_licenses licenses)
    (each_points files policy licenses (recursion_from_All (λ (license : KrateLicense). IsExpressionIn license.lic_info) licenses facts) (recursion_from_All (IsPlacedAt files) licenses placed))
