-- The clarifications and exceptions that are for a crate and do not hold, each by the first of its files that does not
-- match.
use Rattle.std.specs.Prelude.{ℕ, List, [], ◌∷◌, ◌++◌, map, filter, not, Option, if◌then◌else◌}
use Rattle.std.specs.List.{flat_map, find}
use Rattle.std.specs.Option.{option_map_or}
use Rattle.deny_text.specs.Hash.{xxh32_of}
use Rattle.deny_text.specs.Normal.{normal_of}
use Rattle.deny_text.specs.Path.{components_of}
use Rattle.deny_text.specs.declared.span.Span.{Span}
use Rattle.tree_core.specs.file_reads.Heard.{ReadResult, failed, absent, wrong_kind, not_utf8, text, entries}
use Rattle.graph_core.specs.Krate.{CrateRecord}
use Rattle.diag_core.specs.File.{File}
use Rattle.policy_parts.specs.declared.file_source.FileSource.{FileSource}
use Rattle.policy_parts.specs.spec.Matching.{spec_matches}
use Rattle.policy_core.specs.declared.valid.policy.ValidClarification.{ValidClarification}
use Rattle.policy_core.specs.declared.valid.policy.ValidConfig.{ValidConfig}
use Rattle.policy_core.specs.declared.valid.policy.ValidException.{ValidException}
use Rattle.policy_core.specs.valid.Version.{is_version_3}
use Rattle.gather_license.specs.files.KnownReads.{FolderReads, holds, matches}
use Rattle.gather_license.specs.files.NamedFile.{NamedFileView}
use Rattle.gather_core.specs.Exceptions.{named_of}
use Rattle.check_why.specs.declared.answer.Asking.{Asking}
use Rattle.check_why.specs.declared.answer.Asking.TheVariants.{Clarification, Exception}
use Rattle.check_why.specs.declared.answer.UnmetAnswer.{UnmetAnswer}
use Rattle.check_why.specs.declared.answer.Unmatched.{Unmatched}
use Rattle.check_why.specs.declared.answer.Unmatched.TheVariants as by
use Rattle.check_why.specs.Place.{place_at}

-- ---- one file

-- why a file does not match, which has to have a hash; a file is never read as entries
abbrev pub unmatched_by : ℕ → ReadResult → Unmatched
unmatched_by wanted (failed before after) = by.Failed
unmatched_by wanted absent = by.NotThere
unmatched_by wanted wrong_kind = by.NoText
unmatched_by wanted not_utf8 = by.NoText
unmatched_by wanted (text bytes) = by.Hash (xxh32_of (normal_of bytes)) wanted
unmatched_by wanted (entries listed) = by.NoText

-- the first file that does not match
abbrev pub first_unmatched : FolderReads → List NamedFileView → Option NamedFileView
first_unmatched known_reads files = find (λ named. not (matches known_reads named)) files

-- ---- one that asks

-- a clarification or an exception: where it names its crate, and the files that have to have their hashes
pub record AskingFiles : Type 0 where
  pub asking : Asking
  pub place : List ℕ
  pub files : List NamedFileView

abbrev pub unmet_by : FolderReads → AskingFiles → NamedFileView → UnmetAnswer
unmet_by known_reads one named = record {
  asking = one.asking;
  place = one.place;
  path = named.path;
  by = unmatched_by named.hash (known_reads.file (components_of named.path));
}

-- none where it holds
abbrev pub unmet_of : FolderReads → AskingFiles → List UnmetAnswer
unmet_of known_reads one =
    option_map_or (λ named. unmet_by known_reads one named ∷ []) (first_unmatched known_reads one.files) []

-- ---- all of them

-- where one names its crate, and the files that it asks for
abbrev pub asking_files : List File → Asking → ℕ → Span → List FileSource → AskingFiles
asking_files files asking file span sources = record {
  asking = asking;
  place = place_at files file span;
  files = map named_of sources;
}

abbrev pub clarification_files : List File → ValidClarification → AskingFiles
clarification_files files one = asking_files files Clarification one.file_id one.spec.span one.license_files

abbrev pub exception_files : List File → ValidException → AskingFiles
exception_files files one = asking_files files Exception one.file_id one.spec.span one.license_files

-- of clarifications those before the first that holds, since none behind it is looked at
abbrev pub unmet_until : FolderReads → List AskingFiles → List UnmetAnswer
unmet_until known_reads [] = []
unmet_until known_reads (one ∷ more) =
    if holds known_reads one.files then [] else unmet_of known_reads one ++ unmet_until known_reads more

abbrev pub clarifications_unmet : List File → ValidConfig → CrateRecord → FolderReads → List UnmetAnswer
clarifications_unmet files policy krate known_reads =
    unmet_until known_reads
    (map (clarification_files files)
    (filter (λ (one : ValidClarification). spec_matches one.spec krate) policy.clarifications))

-- files of exceptions are looked at under version 3 alone
abbrev pub exceptions_unmet : List File → ValidConfig → CrateRecord → FolderReads → List UnmetAnswer
exceptions_unmet files policy krate known_reads =
    if is_version_3 policy.version
    then flat_map (λ (one : ValidException). unmet_of known_reads (exception_files files one))
    (filter (λ (one : ValidException). spec_matches one.spec krate) policy.exceptions)
    else []

abbrev pub unmet_answers : List File → ValidConfig → CrateRecord → FolderReads → List UnmetAnswer
unmet_answers files policy krate known_reads =
    clarifications_unmet files policy krate known_reads ++ exceptions_unmet files policy krate known_reads
