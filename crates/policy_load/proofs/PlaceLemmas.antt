-- A policy that was read keeps places of its text, and so do the faults of its shape.
use Rattle.std.proofs.Common.{◌≡◌, refl, sym, ap, subst, ℕ, zero, suc, ◌<◌, ◌^◌, true, false, cond, List, [], ◌∷◌, ◌++◌, length, map, Some, Result, Ok, Err, arith}
use Rattle.std.specs.Str.{IsUtf8}
use Rattle.std.specs.List.{AllByRecursion, list_any}
use Rattle.std.specs.Prelude.{unwrap_or}
use Rattle.std.specs.Str.{IsCharBoundary}
use Rattle.std.proofs.lemmas.List.{length-append}
use Rattle.std.proofs.lemmas.List.Elements.{All-from_recursion}
use Rattle.deny_text.specs.declared.span.Span.{Span}
use Rattle.spdx_terms.specs.catalog.Catalog.{CatalogLists, IsCatalog}
use Rattle.deny_text.specs.Spans.{LiesBetween}
use Rattle.toml_subset.proofs.text_laws.Texts.{text_placed}
use Rattle.toml_subset.specs.Answer.{TomlReading}
use Rattle.toml_subset.specs.Data.{Toml}
use Rattle.toml_subset.specs.Reading.{read_text}
use Rattle.toml_subset.proofs.Law.Whole.{text_sound}
use Rattle.toml_subset.specs.shapes.Shaped.{ShapeReading}
use Rattle.toml_subset.specs.shapes.Shapes.{ShapeFault}
use Rattle.diag_core.specs.File.{File, source_of_file}
use Rattle.diag_core.specs.Label.{label_at}
use Rattle.diag_core.specs.declared.diagnostic.Diagnostic.{Diagnostic}
use Rattle.diag_core.specs.declared.label.Label.{Label}
use Rattle.diag_core.specs.declared.label.LabelStyle.TheVariants.{Primary}
use Rattle.diag_print.specs.Places.{LabelIsInside, LabelsAreInside, source_under}
use Rattle.policy_core.specs.place_laws.Places.{IsToldIn, StaysIn}
use Rattle.policy_core.specs.config.Root.{root_of}
use Rattle.policy_core.specs.declared.config.root.RootConfig.{RootConfig}
use Rattle.policy_core.specs.place_laws.Policies.{RootKeeps}
use Rattle.policy_core.proofs.place_laws.PolicyPlaces.{root_stays}
use Rattle.policy_core.specs.Exceptions.{shape_diagnostic}
use Rattle.policy_core.specs.Places.{IsConfigPlaced, LabelPointsInFile, PointInto}
use Rattle.graph_core.specs.selection.Choice.{is_unsupported}
use Rattle.policy_core.specs.text.Config.{AnswersConfig, config_of_text, if_carried, or_shape, or_syntax, config_of_value, then_config}
use Rattle.policy_core.specs.declared.text.error.ConfigError.{ConfigError}
use Rattle.policy_core.specs.declared.text.error.ConfigError.TheVariants as config
use Rattle.policy_core.specs.declared.text.error.ConfigError.TheVariants.{ConfigShape, NotCarried}
use Rattle.policy_load.specs.Load.{refusal_findings}
use Rattle.diag_print.specs.Findings.{AreInside}

-- what a refused or a read policy keeps
abbrev Keeps : List ℕ → Result RootConfig ConfigError → Type 0
Keeps text (Ok root) = RootKeeps text root
Keeps text (Err (ConfigShape faults)) = AllByRecursion (IsToldIn text) faults
Keeps text (Err _) = Unit {0}

carried_keeps : (text : List ℕ) (root : RootConfig) → RootKeeps text root → Keeps text (if_carried root)
carried_keeps text root keeps =
    elim (list_any is_unsupported root.graph.exclude) as (λ b. Keeps text (cond b (Err NotCarried) (Ok root))) [ true ↦ tt | false ↦ keeps ]

shape_keeps : (text : List ℕ) (shaped : ShapeReading RootConfig) → StaysIn RootKeeps text shaped → Keeps text (then_config if_carried (or_shape shaped))
shape_keeps text (Ok root) keeps = carried_keeps text root keeps
shape_keeps text (Err faults) keeps = keeps

module _ (text : List ℕ) (utf8 : IsUtf8 text) (short : length text < 2 ^ 64) (lists : CatalogLists) (laws : IsCatalog lists) where
  value_keeps : (read : TomlReading Toml) → read_text text ≡ read → Keeps text (then_config (λ value. then_config if_carried (config_of_value lists value)) (or_syntax read))
  value_keeps (Ok value) is = shape_keeps text (root_of lists value) (root_stays text utf8 short lists laws value (text_placed text utf8 value (text_sound text value is)))
  value_keeps (Err fault) is = tt

  pub told_keeps : Keeps text (config_of_text lists text)
  told_keeps = value_keeps (read_text text) refl

  pub root_placed : (root : RootConfig) → config_of_text lists text ≡ Ok root → RootKeeps text root
  root_placed root told = subst (Keeps text) told told_keeps

  pub faults_placed : (faults : List ShapeFault) → config_of_text lists text ≡ Err (ConfigShape faults) → AllByRecursion (IsToldIn text) faults
  faults_placed faults told = subst (Keeps text) told told_keeps

-- ---- labels in the last file

source_last : (old : List File) (file : File) → source_of_file (old ++ file ∷ []) (length old) ≡ Some file.source
source_last [] file = refl
source_last (first ∷ old) file = source_last old file

label_inside : (old : List File) (file : File) (span : Span) (words : List ℕ) → LiesBetween file.source span
    → LabelIsInside (old ++ file ∷ []) (label_at Primary (length old) span words)
label_inside old file span words lies =
    let own : source_under (old ++ file ∷ []) (label_at Primary (length old) span words) ≡ file.source = ap (λ found. unwrap_or found []) (source_last old file) in
    record {
      live = omega (arith, length-append old (file ∷ []));
      ordered = lies.ordered;
      starts = subst (λ text. IsCharBoundary text span.start) (sym own) lies.start_border;
      ends = subst (λ text. IsCharBoundary text span.end) (sym own) lies.end_border;
    }

faults_by_recursion : (old : List File) (file : File) (faults : List ShapeFault) → AllByRecursion (IsToldIn file.source) faults
    → AllByRecursion (LabelsAreInside (old ++ file ∷ [])) (map (shape_diagnostic (length old)) faults)
faults_by_recursion old file [] told = tt
faults_by_recursion old file (fault ∷ faults) told = (
  All-from_recursion (LabelIsInside (old ++ file ∷ [])) (label_at Primary (length old) fault.span [] ∷ []) (label_inside old file fault.span [] told.0, tt),
  faults_by_recursion old file faults told.1,
)

-- the findings of a shape's faults point into the file that was added last
pub faults_inside : (old : List File) (file : File) (faults : List ShapeFault) → AllByRecursion (IsToldIn file.source) faults
    → AreInside (old ++ file ∷ []) (map (shape_diagnostic (length old)) faults)
faults_inside old file faults told =
    All-from_recursion (LabelsAreInside (old ++ file ∷ [])) (map (shape_diagnostic (length old)) faults) (faults_by_recursion old file faults told)

none_inside : (files : List File) → AreInside files []
none_inside files k d within = absurd (omega arith)

-- ---- what `load_text` owes its two calls, where the policy's file was added last

module _ (old : List File) (file : File) (utf8 : IsUtf8 file.source) (short : length file.source < 2 ^ 64) (lists : CatalogLists) (laws : IsCatalog lists) where
  pub root_in : (root : RootConfig) → config_of_text lists file.source ≡ Ok root → IsConfigPlaced (old ++ file ∷ []) (length old) root
  root_in root told = record { text = file.source; source = source_last old file; is_text = record { utf8 = utf8; fits = short }; keeps = root_placed file.source utf8 short lists laws root told }

  pub refusal_inside : (refused : ConfigError) → AnswersConfig (config_of_text lists file.source) (Err refused) → AreInside (old ++ file ∷ []) (refusal_findings (length old) refused)
  refusal_inside config.Memory told = none_inside (old ++ file ∷ [])
  refusal_inside (config.ConfigRead fault) told = none_inside (old ++ file ∷ [])
  refusal_inside (config.ConfigSyntax fault) told = none_inside (old ++ file ∷ [])
  refusal_inside (config.ConfigShape faults) told = faults_inside old file faults (faults_placed file.source utf8 short lists laws faults told)
  refusal_inside config.NotCarried told = none_inside (old ++ file ∷ [])

-- ---- findings that point into their files

-- a number that finds a text is that of a file
live_number : (files : List File) (id : ℕ) (text : List ℕ) → source_of_file files id ≡ Some text → id < length files
live_number [] id text is = absurd (cc)
live_number (file ∷ files) zero text is = omega arith
live_number (file ∷ files) (suc id) text is = let rest = live_number files id text is in omega arith

point_inside : (files : List File) (label : Label) → LabelPointsInFile files label → LabelIsInside files label
point_inside files label points =
    let own : source_under files label ≡ points.text = ap (λ found. unwrap_or found []) points.source in
    record {
      live = live_number files label.file_id points.text points.source;
      ordered = points.lies.ordered;
      starts = subst (λ text. IsCharBoundary text label.range.start) (sym own) points.lies.start_border;
      ends = subst (λ text. IsCharBoundary text label.range.end) (sym own) points.lies.end_border;
    }

labels_inside : (files : List File) (labels : List Label) → AllByRecursion (LabelPointsInFile files) labels → AllByRecursion (LabelIsInside files) labels
labels_inside files [] points = tt
labels_inside files (label ∷ labels) points = (point_inside files label points.0, labels_inside files labels points.1)

findings_inside : (files : List File) (found : List Diagnostic) → PointInto files found → AllByRecursion (LabelsAreInside files) found
findings_inside files [] points = tt
findings_inside files (finding ∷ found) points =
    (All-from_recursion (LabelIsInside files) finding.labels (labels_inside files finding.labels points.0), findings_inside files found points.1)

pub all_inside : (files : List File) (found : List Diagnostic) → PointInto files found → AreInside files found
all_inside files found points = All-from_recursion (LabelsAreInside files) found (findings_inside files found points)
