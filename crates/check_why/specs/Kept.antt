-- What came of reads, and what does not hold, by what the check has kept of a crate's licence files.
use Rattle.std.specs.Prelude.{ℕ, ◌==◌, List, [], ◌∷◌, ◌++◌, find, slice_get, if◌then◌else◌}
use Rattle.std.specs.Prelude.{Option, Some, None, option_map, Result, Ok, Err}
use Rattle.std.specs.List.{cons_option}
use Rattle.std.specs.Option.{option_map_or}
use Rattle.tree_core.specs.declared.file_reads.bad_read.BadRead.{BadRead}
use Rattle.tree_core.specs.declared.file_reads.bad_read.BadRead.TheVariants as bad
use Rattle.tree_core.specs.declared.reads.ReadAnswer.{ReadAnswer as Answer}
use Rattle.tree_core.specs.declared.reads.ReadAnswer.TheVariants.{Got, Absent, WrongKind, NotUtf8, Failed}
use Rattle.tree_core.specs.declared.reads.ReadKind.{ReadKind}
use Rattle.tree_core.specs.declared.reads.ReadKind.TheVariants.{Manifest, Listing, LicenseFile}
use Rattle.tree_core.specs.declared.reads.ReadRecord.{ReadRecord}
use Rattle.graph_core.specs.Krate.{CrateRecord}
use Rattle.diag_core.specs.File.{File}
use Rattle.policy_parts.specs.declared.file_source.FileSource.{FileSource}
use Rattle.policy_parts.specs.spec.Index.{matching_places}
use Rattle.policy_core.specs.declared.valid.policy.ValidClarification.{ValidClarification}
use Rattle.policy_core.specs.declared.valid.policy.ValidConfig.{ValidConfig}
use Rattle.policy_core.specs.declared.valid.policy.ValidException.{ValidException}
use Rattle.policy_core.specs.valid.Version.{is_version_3}
use Rattle.gather_license.specs.declared.expression.kept.KeptFile.{KeptFile}
use Rattle.gather_license.specs.declared.expression.kept.KeptText.{KeptText}
use Rattle.gather_license.specs.files.Pack.{same_path}
use Rattle.check_why.specs.declared.answer.ReadAnswer.{ReadAnswer}
use Rattle.check_why.specs.declared.answer.ReadSaid.{ReadSaid}
use Rattle.check_why.specs.declared.answer.ReadSaid.TheVariants as said
use Rattle.check_why.specs.declared.answer.UnmetAnswer.{UnmetAnswer}
use Rattle.check_why.specs.declared.answer.Unmatched.{Unmatched}
use Rattle.check_why.specs.declared.answer.Unmatched.TheVariants as by
use Rattle.check_why.specs.Indexes.{clarification_specs, exception_specs}
use Rattle.check_why.specs.Reads.{named_said, wrong_said}
use Rattle.check_why.specs.Unmet.{AskingFiles, clarification_files, exception_files}

-- ---- reads

-- why a file gave no text
abbrev pub bad_said : BadRead → ReadSaid
bad_said bad.Absent = said.NotThere
bad_said bad.WrongKind = said.Folder
bad_said bad.NotUtf8 = said.NotUtf8
bad_said (bad.Failed before after) = said.Failed

-- a licence file by what is kept of it
abbrev pub kept_said : Result KeptText BadRead → ReadSaid
kept_said (Ok text) = named_said text.score text.name
kept_said (Err error) = bad_said error

-- by the first of those that are kept
abbrev pub first_said : List KeptFile → ReadSaid
first_said [] = said.NotThere
first_said (file ∷ files) = kept_said file.kept

abbrev pub got_said : ReadKind → List KeptFile → ReadSaid
got_said Manifest kept = said.Read
got_said Listing kept = said.Read
got_said LicenseFile kept = first_said kept

abbrev pub read_said : ReadKind → Answer → List KeptFile → ReadSaid
read_said kind Got kept = got_said kind kept
read_said kind Absent kept = said.NotThere
read_said kind WrongKind kept = wrong_said kind
read_said kind NotUtf8 kept = said.NotUtf8
read_said kind (Failed before after) kept = said.Failed

-- a read of a licence file has the first of those that are kept
abbrev pub rest_of : List KeptFile → List KeptFile
rest_of [] = []
rest_of (file ∷ files) = files

abbrev pub behind_kind : ReadKind → List KeptFile → List KeptFile
behind_kind Manifest kept = kept
behind_kind Listing kept = kept
behind_kind LicenseFile kept = rest_of kept

abbrev pub behind : ReadRecord → List KeptFile → List KeptFile
behind read kept = behind_kind read.kind kept

-- reads in order, with what is kept of the licence files among them
abbrev pub answers_by : List ReadRecord → List KeptFile → List ReadAnswer
answers_by [] kept = []
answers_by (read ∷ reads) kept =
    record { path = read.path; said = read_said read.kind read.answer kept } ∷ answers_by reads (behind read kept)

-- ---- what does not hold

-- why a file does not match, which is to have a hash; none where it does
abbrev pub text_unmatched : ℕ → Result KeptText BadRead → Option Unmatched
text_unmatched wanted (Ok text) = if text.hash == wanted then None else Some (by.Hash text.hash wanted)
text_unmatched wanted (Err bad.Absent) = Some by.NotThere
text_unmatched wanted (Err bad.WrongKind) = Some by.NoText
text_unmatched wanted (Err bad.NotUtf8) = Some by.NoText
text_unmatched wanted (Err (bad.Failed before after)) = Some by.Failed

-- what is kept of the file at a path of the same parts
abbrev pub kept_at : List KeptFile → List ℕ → Option (Result KeptText BadRead)
kept_at kept path =
    option_map (λ (file : KeptFile). file.kept) (find (λ (file : KeptFile). same_path path file.path) kept)

-- one of which nothing is kept is not there
abbrev pub file_unmatched : List KeptFile → FileSource → Option Unmatched
file_unmatched kept named =
    option_map_or (text_unmatched named.hash) (kept_at kept named.path.value) (Some by.NotThere)

-- the first of some files that does not match, and why
abbrev pub first_by : FileSource → Option Unmatched → Option (FileSource × Unmatched) → Option (FileSource × Unmatched)
first_by named None rest = rest
first_by named (Some reason) rest = Some (named, reason)

abbrev pub first_unmatched : List KeptFile → List FileSource → Option (FileSource × Unmatched)
first_unmatched kept [] = None
first_unmatched kept (named ∷ files) = first_by named (file_unmatched kept named) (first_unmatched kept files)

-- what is said of one that asks for files; none where it holds
abbrev pub unmet_at : AskingFiles → FileSource × Unmatched → UnmetAnswer
unmet_at one found =
    record { asking = one.asking; place = one.place; path = found.0.path.value; by = found.1 }

abbrev pub unmet_by : List KeptFile → AskingFiles → List FileSource → Option UnmetAnswer
unmet_by kept one files = option_map (unmet_at one) (first_unmatched kept files)

-- what is said of the clarification at a place; none where it holds
abbrev pub clarification_unmet : List File → ValidConfig → List KeptFile → ℕ → Option UnmetAnswer
clarification_unmet files policy kept place =
    option_map_or (λ (one : ValidClarification). unmet_by kept (clarification_files files one) one.license_files)
    (slice_get policy.clarifications place) None

abbrev pub exception_unmet : List File → ValidConfig → List KeptFile → ℕ → Option UnmetAnswer
exception_unmet files policy kept place =
    option_map_or (λ (one : ValidException). unmet_by kept (exception_files files one) one.license_files)
    (slice_get policy.exceptions place) None

-- what is said at places, in order, each put before what is said behind it
abbrev pub said_at : (Option UnmetAnswer → List UnmetAnswer → List UnmetAnswer) → (ℕ → Option UnmetAnswer) → List ℕ
    → List UnmetAnswer
said_at put tried [] = []
said_at put tried (place ∷ places) = put (tried place) (said_at put tried places)

-- up to the first that holds
abbrev pub until_holds : Option UnmetAnswer → List UnmetAnswer → List UnmetAnswer
until_holds None rest = []
until_holds (Some unmet) rest = unmet ∷ rest

abbrev pub clarifications_unmet : List File → ValidConfig → CrateRecord → List KeptFile → List UnmetAnswer
clarifications_unmet files policy krate kept =
    said_at until_holds (clarification_unmet files policy kept)
    (matching_places (clarification_specs policy.clarifications) krate)

-- the places of the exceptions that are for a crate, where their files are looked at
abbrev pub exceptions_for : ValidConfig → CrateRecord → List ℕ
exceptions_for policy krate =
    if is_version_3 policy.version then matching_places (exception_specs policy.exceptions) krate else []

abbrev pub exceptions_unmet : List File → ValidConfig → CrateRecord → List KeptFile → List UnmetAnswer
exceptions_unmet files policy krate kept =
    said_at cons_option (exception_unmet files policy kept) (exceptions_for policy krate)

abbrev pub unmet_answers : List File → ValidConfig → CrateRecord → List KeptFile → List UnmetAnswer
unmet_answers files policy krate kept =
    clarifications_unmet files policy krate kept ++ exceptions_unmet files policy krate kept
