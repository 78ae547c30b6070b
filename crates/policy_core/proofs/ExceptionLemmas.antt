-- What an exceptions file leaves, by what was read of it.
use Rattle.std.proofs.Common.{◌≡◌, ◌∙◌, refl, sym, ap, subst, ℕ, ℤ, true, List, [], ◌∷◌, ◌++◌, append-nil, length, map, Ok, Err}
use Rattle.spdx_terms.specs.catalog.Catalog.{CatalogLists}
use Rattle.deny_text.specs.declared.span.Span.{Span}
use Rattle.diag_core.specs.File.{File, Grows}
use Rattle.diag_core.specs.declared.diagnostic.Diagnostic.{Diagnostic}
use Rattle.toml_subset.specs.Answer.{TomlReading}
use Rattle.toml_subset.specs.Data.{Toml}
use Rattle.toml_subset.specs.Reading.{read_text}
use Rattle.toml_subset.specs.shapes.Shaped.{ShapeReading, faults_in}
use Rattle.policy_parts.specs.declared.entries.exception.ExceptionsFile.{ExceptionsFile}
use Rattle.policy_core.specs.declared.valid.policy.ValidClarification.{ValidClarification}
use Rattle.policy_core.specs.declared.valid.policy.ValidConfig.{ValidConfig}
use Rattle.policy_core.specs.declared.valid.policy.ValidException.{ValidException}
use Rattle.policy_core.specs.Exceptions.{HasMoreEntries, valid_exceptions_in, exceptions_kept, exceptions_findings, file_version_findings, overlay_findings, overlay_findings_in, overlays_in, overlays_kept, shape_diagnostic, syntax_finding, version_findings_in}
use Rattle.policy_core.specs.ExceptionsText.{ExceptionsAnswer, HadMemory, ReadsBy, answer_exceptions, answer_overlays, diagnostics_of}
use Rattle.policy_core.specs.Heard.{TakesExceptions, exceptions_read_of, findings_heard, heard_file_of, value_or_fault}
use Rattle.policy_core.specs.validate.Order.{AddsInOrder, PutsExceptionInOrder, PutsFilesInOrder}
use Rattle.policy_core.specs.declared.exceptions.ExceptionsHeard.{ExceptionsHeard}
use Rattle.policy_core.specs.declared.exceptions.ExceptionsHeard.TheVariants.{Heard}
use Rattle.policy_core.specs.declared.exceptions_text.NoExceptions.TheVariants.{Syntax, Shape, Memory}
use Rattle.policy_core.proofs.validate.AddedLemmas.{adds_none}

-- a policy with more behind its clarifications and exceptions, and one that is as it was
pub more_entries : (policy : ValidConfig) (clarifications overlays : List ValidClarification) (exceptions more : List ValidException)
    → clarifications ≡ policy.clarifications ++ overlays → exceptions ≡ policy.exceptions ++ more
    → HasMoreEntries policy (record policy { clarifications = clarifications; exceptions = exceptions })
more_entries policy clarifications overlays exceptions more are is = (
  overlays,
  more,
  ap (λ (kept : List ValidClarification). let one : ValidConfig = record policy { clarifications = kept; exceptions = exceptions } in one) are
      ∙ ap (λ (kept : List ValidException). let one : ValidConfig = record policy { clarifications = policy.clarifications ++ overlays; exceptions = kept } in one) is,
)

pub no_more_entries : (policy : ValidConfig) → HasMoreEntries policy policy
no_more_entries policy =
    more_entries policy policy.clarifications [] policy.exceptions [] (sym (append-nil policy.clarifications)) (sym (append-nil policy.exceptions))

-- all else of it stays
pub rest_stays : (old new : ValidConfig) → HasMoreEntries old new → new ≡ record old { clarifications = new.clarifications; exceptions = new.exceptions }
rest_stays old new has =
    subst (λ (one : ValidConfig). one ≡ record old { clarifications = one.clarifications; exceptions = one.exceptions }) (sym has.2) refl

-- what is kept of a text is what is kept of the answer
pub kept_is : (lists : CatalogLists) (file : ℕ) (read : TomlReading Toml) (answer : ExceptionsAnswer) → ReadsBy lists read answer → HadMemory answer
    → exceptions_kept lists file (value_or_fault read) ≡ answer_exceptions file answer
kept_is lists file (Ok toml) (Ok held) reads is = ap (valid_exceptions_in file) reads
kept_is lists file (Ok toml) (Err (Syntax place)) reads is = absurd reads
kept_is lists file (Ok toml) (Err (Shape faults)) reads is = ap (valid_exceptions_in file) reads
kept_is lists file (Ok toml) (Err Memory) reads is = absurd is
kept_is lists file (Err fault) (Ok held) reads is = absurd reads
kept_is lists file (Err fault) (Err (Syntax place)) reads is = refl
kept_is lists file (Err fault) (Err (Shape faults)) reads is = absurd reads
kept_is lists file (Err fault) (Err Memory) reads is = absurd is

pub overlays_are : (lists : CatalogLists) (file : ℕ) (read : TomlReading Toml) (answer : ExceptionsAnswer) → ReadsBy lists read answer → HadMemory answer
    → overlays_kept lists file (value_or_fault read) ≡ answer_overlays lists file answer
overlays_are lists file (Ok toml) (Ok held) reads is = ap (overlays_in lists file) reads
overlays_are lists file (Ok toml) (Err (Syntax place)) reads is = absurd reads
overlays_are lists file (Ok toml) (Err (Shape faults)) reads is = ap (overlays_in lists file) reads
overlays_are lists file (Ok toml) (Err Memory) reads is = absurd is
overlays_are lists file (Err fault) (Ok held) reads is = absurd reads
overlays_are lists file (Err fault) (Err (Syntax place)) reads is = refl
overlays_are lists file (Err fault) (Err (Shape faults)) reads is = absurd reads
overlays_are lists file (Err fault) (Err Memory) reads is = absurd is

-- and so is what is reported, under a version of the policy
abbrev shape_told : CatalogLists → ℤ → ℕ → ShapeReading ExceptionsFile → List Diagnostic
shape_told lists version file shaped =
    map (shape_diagnostic file) (faults_in shaped) ++ overlay_findings_in lists file shaped ++ version_findings_in version file shaped

abbrev all_told : CatalogLists → ℤ → ℕ → TomlReading Toml → List Diagnostic
all_told lists version file read =
    exceptions_findings lists file (value_or_fault read) ++ overlay_findings lists file (value_or_fault read)
    ++ file_version_findings lists version file (value_or_fault read)

pub told_is : (lists : CatalogLists) (version : ℤ) (file : ℕ) (read : TomlReading Toml) (answer : ExceptionsAnswer) → ReadsBy lists read answer → HadMemory answer
    → all_told lists version file read ≡ diagnostics_of lists version file answer
told_is lists version file (Ok toml) (Ok held) reads is = ap (shape_told lists version file) reads
told_is lists version file (Ok toml) (Err (Syntax place)) reads is = absurd reads
told_is lists version file (Ok toml) (Err (Shape faults)) reads is =
    let told = map (shape_diagnostic file) faults in
    ap (shape_told lists version file) reads ∙ append-nil (told ++ []) ∙ append-nil told
told_is lists version file (Ok toml) (Err Memory) reads is = absurd is
told_is lists version file (Err fault) (Ok held) reads is = absurd reads
told_is lists version file (Err fault) (Err (Syntax place)) reads is = ap (λ (at : Span). syntax_finding file at ∷ []) (sym reads)
told_is lists version file (Err fault) (Err (Shape faults)) reads is = absurd reads
told_is lists version file (Err fault) (Err Memory) reads is = absurd is

-- the state where nothing is kept of an exceptions file
pub none_taken : (lists : CatalogLists) (hearing : ExceptionsHeard) (policy : ValidConfig) (files : List File) (found further : List Diagnostic)
    → overlays_kept lists (length files) (exceptions_read_of hearing) ≡ [] → exceptions_kept lists (length files) (exceptions_read_of hearing) ≡ []
    → heard_file_of hearing ≡ []
    → further ≡ found ++ findings_heard lists policy.version (length files) hearing
    → TakesExceptions lists hearing (record { policy = policy; files = files; found = found }) (record { policy = policy; files = files; found = further })
none_taken lists hearing policy files found further no_overlay none no_text told = record {
  rest = refl;
  clarifications = subst (λ kept. AddsInOrder PutsFilesInOrder kept policy.clarifications policy.clarifications) (sym no_overlay) (adds_none PutsFilesInOrder policy.clarifications);
  exceptions = subst (λ kept. AddsInOrder PutsExceptionInOrder kept policy.exceptions policy.exceptions) (sym none) (adds_none PutsExceptionInOrder policy.exceptions);
  files = sym (append-nil files) ∙ ap (λ more. files ++ more) (sym no_text);
  found = told;
}

-- the state behind a text that was read
pub text_taken : (lists : CatalogLists) (path text : List ℕ) (file : ℕ) (answer : ExceptionsAnswer) (policy : ValidConfig) (files : List File) (found : List Diagnostic)
    (licenses : ValidConfig) (more : List File) (further : List Diagnostic)
    → ReadsBy lists (read_text text) answer → HadMemory answer → file ≡ length files
    → HasMoreEntries policy licenses
    → AddsInOrder PutsFilesInOrder (answer_overlays lists file answer) policy.clarifications licenses.clarifications
    → AddsInOrder PutsExceptionInOrder (answer_exceptions file answer) policy.exceptions licenses.exceptions
    → more ≡ files ++ record { name = path; source = text; has_path = true } ∷ []
    → further ≡ found ++ diagnostics_of lists policy.version file answer
    → TakesExceptions lists (Heard path (Ok text)) (record { policy = policy; files = files; found = found })
    (record { policy = licenses; files = more; found = further })
text_taken lists path text file answer policy files found licenses more further reads is number has overlays kept added told =
    let read = read_text text in
    let stands : answer_overlays lists file answer ≡ overlays_kept lists (length files) (value_or_fault read) =
    sym (overlays_are lists file read answer reads is) ∙ ap (λ n. overlays_kept lists n (value_or_fault read)) number in
    let keeps : answer_exceptions file answer ≡ exceptions_kept lists (length files) (value_or_fault read) =
    sym (kept_is lists file read answer reads is) ∙ ap (λ n. exceptions_kept lists n (value_or_fault read)) number in
    let version = policy.version in
    let tells : diagnostics_of lists version file answer ≡ findings_heard lists version (length files) (Heard path (Ok text)) =
    sym (told_is lists version file read answer reads is) ∙ ap (λ n. all_told lists version n read) number in
    record {
      rest = rest_stays policy licenses has;
      clarifications = subst (λ written. AddsInOrder PutsFilesInOrder written policy.clarifications licenses.clarifications) stands overlays;
      exceptions = subst (λ written. AddsInOrder PutsExceptionInOrder written policy.exceptions licenses.exceptions) keeps kept;
      files = added;
      found = told ∙ ap (λ t. found ++ t) tells;
    }

-- ---- files that are known

-- no file was added
pub grows_itself : (files new : List File) → new ≡ files → Grows files new
grows_itself files new same = ([], same ∙ sym (append-nil files))

-- files may be added to files that are the same
pub grows_from : (files middle new : List File) → middle ≡ files → Grows middle new → Grows files new
grows_from files middle new same grows = subst (λ (front : List File). Grows front new) same grows
