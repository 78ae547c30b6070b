-- Places, as the load, gathering and the check say them.
use Rattle.std.proofs.Common.{sym, subst, ℕ, List, [], ◌∷◌, ◌++◌, map, Option, Some, None}
use Rattle.std.specs.List.{AllByRecursion}
use Rattle.std.proofs.lemmas.List.Elements.{All-from_recursion}
use Rattle.deny_text.specs.declared.span.Span.{Span}
use Rattle.diag_core.specs.File.{File, Grows}
use Rattle.policy_parts.specs.declared.entries.licensee.Licensee.{Licensee}
use Rattle.policy_parts.specs.declared.file_source.FileSource.{FileSource}
use Rattle.policy_core.specs.declared.valid.policy.ValidClarification.{ValidClarification}
use Rattle.policy_core.specs.declared.valid.policy.ValidConfig.{ValidConfig}
use Rattle.policy_core.specs.declared.valid.policy.ValidException.{ValidException}
use Rattle.policy_core.specs.Places.{ClarificationStands, ExceptionStands, ExpressionStands, FileStands, LicenseeStands, LiesInFile, PolicyStands}
use Rattle.gather_license.specs.Clarification.{PlacedFile}
use Rattle.gather_core.specs.findings.License.{PlaceLies, StandsIn}
use Rattle.gather_core.proofs.findings.LicenseLemmas.{place_grown}
use Rattle.gather_core.specs.Entries.{ClarificationEntry, clarification_view, entries_of, clarification_entry, placed_of}
use Rattle.gather_core.specs.Premises.{ArePlacedIn, IsClarificationPlaced}
use Rattle.check_core.specs.unused.Laws.{EntriesLie}

-- ---- as gathering asks

place_lies : (files : List File) (file : ℕ) (span : Span) → LiesInFile files file span → PlaceLies files file span
place_lies files file span lies =
    record { source = lies.text; is_source = lies.source; ordered = lies.lies.ordered; starts = lies.lies.start_border; ends = lies.lies.end_border }

stands_in : (files : List File) (file start : ℕ) (whole : Option Span) (words : List ℕ) → ExpressionStands files file whole start words → StandsIn files file start whole words
stands_in files file start (Some place) words lies = place_lies files file place lies
stands_in files file start None words stands = record {
  points = record {
    source = stands.text;
    is_source = stands.source;
    cuts = record { ordered = stands.lies.ordered; starts = stands.lies.start_border; ends = stands.lies.end_border; cut_out = stands.is };
  };
  fits = stands.fits;
}

paths_lie : (files : List File) (file : ℕ) (sources : List FileSource) → AllByRecursion (FileStands files file) sources
    → AllByRecursion (λ (one : PlacedFile). PlaceLies files file one.span) (map placed_of sources)
paths_lie files file [] all = tt
paths_lie files file (source ∷ sources) all = (place_lies files file source.path.span all.0, paths_lie files file sources all.1)

is_placed : (files : List File) (one : ValidClarification) → ClarificationStands files one → IsClarificationPlaced files (clarification_view one)
is_placed files one stands = record {
  expression = stands_in files one.file_id one.expr_offset one.whole one.expression.text stands.expression;
  paths =
      All-from_recursion (λ (path : PlacedFile). PlaceLies files one.file_id path.span) (map placed_of one.license_files)
      (paths_lie files one.file_id one.license_files stands.license_files);
}

each_placed : (files : List File) (ones : List ValidClarification) → AllByRecursion (ClarificationStands files) ones
    → AllByRecursion (λ (entry : ClarificationEntry). IsClarificationPlaced files entry.clarification) (map clarification_entry ones)
each_placed files [] all = tt
each_placed files (one ∷ ones) all = (is_placed files one all.0, each_placed files ones all.1)

-- what gathering asks of a policy follows from what its load ensures
pub are_placed : (files : List File) (policy : ValidConfig) → PolicyStands files policy → ArePlacedIn files (entries_of policy)
are_placed files policy stands =
    All-from_recursion (λ (entry : ClarificationEntry). IsClarificationPlaced files entry.clarification) (entries_of policy)
    (each_placed files policy.clarifications stands.clarifications)

-- ---- as the check asks

lies_on : (files more : List File) (file : ℕ) (span : Span) → LiesInFile files file span → PlaceLies (files ++ more) file span
lies_on files more file span lies = place_grown files more file span (place_lies files file span lies)

licensees_lie : (files more : List File) (file : ℕ) (licensees : List Licensee) → AllByRecursion (LicenseeStands files file) licensees
    → AllByRecursion (λ (licensee : Licensee). PlaceLies (files ++ more) file licensee.0.span) licensees
licensees_lie files more file [] all = tt
licensees_lie files more file (licensee ∷ licensees) all = (lies_on files more file licensee.0.span all.0, licensees_lie files more file licensees all.1)

exceptions_lie : (files more : List File) (exceptions : List ValidException) → AllByRecursion (ExceptionStands files) exceptions
    → AllByRecursion (λ (exception : ValidException). PlaceLies (files ++ more) exception.file_id exception.spec.span) exceptions
exceptions_lie files more [] all = tt
exceptions_lie files more (exception ∷ exceptions) all =
    (lies_on files more exception.file_id exception.spec.span all.0.spec, exceptions_lie files more exceptions all.1)

-- what the check asks of a policy, in the table that gathering has left
pub entries_lie : (files new : List File) (policy : ValidConfig) → PolicyStands files policy → Grows files new → EntriesLie new policy
entries_lie files new policy stands grows = subst (λ (table : List File). EntriesLie table policy) (sym grows.1) (record {
  allowed = licensees_lie files grows.0 policy.file_id policy.allowed stands.allowed;
  exceptions = exceptions_lie files grows.0 policy.exceptions stands.exceptions;
})
