-- A verdict depends on what is read of the crate's own folder and files, and on nothing else of a tree.
use Rattle.std.specs.Prelude.{◌≡◌, ℕ, List, [], ◌++◌, map, Option, option_map, All, if◌then◌else◌}
use Rattle.std.specs.List.{flat_map}
use Rattle.deny_text.specs.Path.{components_of}
use Rattle.tree_core.specs.Content.{Content, resolve}
use Rattle.tree_core.specs.declared.reads.ReadKind.TheVariants.{LicenseFile}
use Rattle.spdx_core.specs.Reading.{ExpressionView}
use Rattle.graph_core.specs.Krate.{CrateRecord}
use Rattle.spdx_core.specs.declared.certificates.verdict.Verdict.{Verdict}
use Rattle.tree_core.specs.file_reads.Heard.{ReadResult, listing_heard, read_place, there_heard}
use Rattle.gather_license.specs.files.KnownReads.{FolderReads}
use Rattle.gather_license.specs.files.Pack.{license_files_in}
use Rattle.gather_license.specs.expression.Scanned.{Scanner}
use Rattle.gather_license.specs.Clarification.{ClarificationView, named_in}
use Rattle.gather_license.specs.Priority.{folder_of, priority_of}
use Rattle.gather_core.specs.Entries.{clarifications_of, entries_of}
use Rattle.gather_core.specs.Exceptions.{ExceptionEntry, ExceptionRules, counted_of, exception_rules, is_for}
use Rattle.policy_core.specs.declared.valid.policy.ValidConfig.{ValidConfig}
use Rattle.policy_core.specs.valid.View.{policy_of}
use Rattle.check_core.specs.Verdicts.{IsVerdict}

-- the expression of a crate, by what is read
abbrev pub expression_by : Scanner → ValidConfig → CrateRecord → FolderReads → Option ExpressionView
expression_by scanner policy krate known_reads =
    option_map (λ answer. answer.expression)
    (priority_of scanner (clarifications_of krate (entries_of policy)) krate known_reads)

-- ---- the files of a crate

abbrev pub clarified_paths : ClarificationView → List (List ℕ)
clarified_paths one = map (λ named. named.path) (named_in one)

-- the files of an exception, where it is for the crate
abbrev pub excepted_paths : CrateRecord → ExceptionEntry → List (List ℕ)
excepted_paths krate entry = if is_for krate entry then map (λ named. named.path) entry.files else []

-- those of all exceptions, where each that holds counts; where the first alone counts it does so whatever its files
abbrev pub exception_paths : ExceptionRules → CrateRecord → List (List ℕ)
exception_paths rules krate = if rules.each_counts then flat_map (excepted_paths krate) rules.entries else []

-- at most these are read: the licence files of its folder and the file that its record names, by the listing, and the
-- files that clarifications and exceptions name
abbrev pub paths_around : ReadResult → List ClarificationView → ExceptionRules → CrateRecord → List (List ℕ)
paths_around listing clarifications rules krate =
    license_files_in listing krate.license_file ++ flat_map clarified_paths clarifications
    ++ exception_paths rules krate

-- the same is read of its folder and of its files
pub record HearTheSame (clarifications : List ClarificationView) (rules : ExceptionRules) (krate : CrateRecord)
    (one other : FolderReads) : Type 0 where
  pub listing : one.listing ≡ other.listing
  pub files : All (λ path. one.file (components_of path) ≡ other.file (components_of path))
      (paths_around one.listing clarifications rules krate)

-- the verdict is that on a crate by what is read of it: its expression, and the exceptions that count for it
abbrev pub IsVerdictBy : Scanner → ValidConfig → CrateRecord → FolderReads → Verdict → Type 0
IsVerdictBy scanner policy krate known_reads verdict =
    IsVerdict (policy_of policy) krate (counted_of (exception_rules policy) krate known_reads)
    (expression_by scanner policy krate known_reads) verdict

-- what a content has of a crate's folder and of its files, so what reads of them say that do not fail
abbrev pub known_reads_there : CrateRecord → Content → FolderReads
known_reads_there krate content = record {
  listing = listing_heard content (resolve (folder_of krate));
  file = λ parts. there_heard LicenseFile content (read_place LicenseFile (resolve (folder_of krate)) parts);
}

-- ---- laws

-- equal known reads, equal verdicts with equal certificates
abbrev pub VerdictIsByKnownReads : Type 0
VerdictIsByKnownReads =
    (scanner : Scanner) (policy : ValidConfig) (krate : CrateRecord) (one other : FolderReads) (first second : Verdict)
    → HearTheSame (clarifications_of krate (entries_of policy)) (exception_rules policy) krate one other
    → IsVerdictBy scanner policy krate one first → IsVerdictBy scanner policy krate other second → first ≡ second

-- contents that hold the same there give equal verdicts
abbrev pub VerdictIsOwn : Type 0
VerdictIsOwn =
    (scanner : Scanner) (policy : ValidConfig) (krate : CrateRecord) (one other : Content) (first second : Verdict)
    → HearTheSame (clarifications_of krate (entries_of policy)) (exception_rules policy) krate
    (known_reads_there krate one) (known_reads_there krate other)
    → IsVerdictBy scanner policy krate (known_reads_there krate one) first
    → IsVerdictBy scanner policy krate (known_reads_there krate other) second → first ≡ second
