-- The exceptions of a policy, which of them count for a crate, and what is read of the crate's files for that.
use Rattle.std.specs.Prelude.{ℕ, Bool, ◌&&◌, not, List, [], ◌∷◌, ◌++◌, map, filter, slice_get, if◌then◌else◌}
use Rattle.std.specs.List.{flat_map, list_any}
use Rattle.std.specs.Option.{option_map_or, option_to_list}
use Rattle.graph_core.specs.Krate.{CrateRecord}
use Rattle.policy_parts.specs.declared.file_source.FileSource.{FileSource}
use Rattle.policy_parts.specs.spec.Index.{first_of, places_from}
use Rattle.policy_parts.specs.spec.Matching.{spec_matches}
use Rattle.policy_parts.specs.spec.Spec.{Spec}
use Rattle.policy_core.specs.declared.valid.policy.ValidConfig.{ValidConfig}
use Rattle.policy_core.specs.declared.valid.policy.ValidException.{ValidException}
use Rattle.policy_core.specs.valid.Version.{is_version_3}
use Rattle.gather_license.specs.files.KnownReads.{FolderReads, holds, looked_of}
use Rattle.gather_license.specs.files.NamedFile.{NamedFileView}
use Rattle.gather_license.specs.files.Pack.{first_spellings, same_path}
use Rattle.gather_license.specs.Clarification.{PlacedFile}

-- an exception: the crates that it is for, and the files that have to have their hashes
pub record ExceptionEntry : Type 0 where
  pub spec : Spec
  pub files : List NamedFileView

-- The exceptions of a policy, in its order, and whether each that holds for a crate counts, or the first for it alone
pub record ExceptionRules : Type 0 where
  pub each_counts : Bool
  pub entries : List ExceptionEntry

abbrev pub named_of : FileSource → NamedFileView
named_of file = record { path = file.path.value; hash = file.hash }

abbrev pub exception_entry : ValidException → ExceptionEntry
exception_entry exception = record { spec = exception.spec; files = map named_of exception.license_files }

-- each counts under version 3 of a policy, and under no other
abbrev pub exception_rules : ValidConfig → ExceptionRules
exception_rules policy =
    record { each_counts = is_version_3 policy.version; entries = map exception_entry policy.exceptions }

-- ---- which count

abbrev pub is_for : CrateRecord → ExceptionEntry → Bool
is_for krate one = spec_matches one.spec krate

-- it is for the crate, and each of its files matches
abbrev pub holds_for : CrateRecord → FolderReads → ExceptionEntry → Bool
holds_for krate known_reads one = is_for krate one && holds known_reads one.files

-- The places of the exceptions that count for a crate: of each that holds, in order; else of the first that is for it,
-- whatever files it names.
abbrev pub counted_of : ExceptionRules → CrateRecord → FolderReads → List ℕ
counted_of rules krate known_reads =
    if rules.each_counts then places_from 0 (holds_for krate known_reads) rules.entries
    else option_to_list (first_of (places_from 0 (is_for krate) rules.entries))

-- ---- what is read for that

-- of each exception that is for the crate, in order, its files up to and with the first that does not match
abbrev pub named_by_each : List ExceptionEntry → CrateRecord → FolderReads → List (List ℕ)
named_by_each entries krate known_reads =
    flat_map (λ (one : ExceptionEntry). looked_of known_reads one.files) (filter (is_for krate) entries)

-- these where each counts, else none
abbrev pub named_for : ExceptionRules → CrateRecord → FolderReads → List (List ℕ)
named_for rules krate known_reads = if rules.each_counts then named_by_each rules.entries krate known_reads else []

-- the files of exceptions that are looked at, each path by its first spelling
abbrev pub looked_for : ExceptionRules → CrateRecord → FolderReads → List (List ℕ)
looked_for rules krate known_reads = first_spellings (named_for rules krate known_reads)

-- the paths that have the parts of none that was read before
abbrev pub further_paths : List (List ℕ) → List (List ℕ) → List (List ℕ)
further_paths read paths = filter (λ path. not (list_any (same_path path) read)) paths

-- ---- found by places

abbrev pub exception_specs : List ExceptionEntry → List Spec
exception_specs entries = map (λ one. one.spec) entries

abbrev pub named_in : List PlacedFile → List NamedFileView
named_in files = map (λ file. file.named) files

-- the files of the exception at a place; none where there is no exception
abbrev pub files_at : List ExceptionEntry → ℕ → List NamedFileView
files_at entries place = option_map_or (λ (one : ExceptionEntry). one.files) (slice_get entries place) []

-- the places whose exceptions hold by their files, out of some
abbrev pub holding_at : FolderReads → List ExceptionEntry → List ℕ → List ℕ
holding_at known_reads entries places = filter (λ place. holds known_reads (files_at entries place)) places

-- the files that are looked at of the exceptions at some places
abbrev pub looked_at : FolderReads → List ExceptionEntry → List ℕ → List (List ℕ)
looked_at known_reads entries places = flat_map (λ place. looked_of known_reads (files_at entries place)) places

-- ---- a further exception

-- behind all others
abbrev pub with_exception : ExceptionRules → ExceptionEntry → ExceptionRules
with_exception rules one = record { each_counts = rules.each_counts; entries = rules.entries ++ one ∷ [] }
