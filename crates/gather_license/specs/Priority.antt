-- Which licence a crate is under, in one fixed order: a clarification of the policy, then of its exceptions file, whose
-- files have the stated hashes, else the crate's own field, else what its licence files are identified as, else
-- nothing.
use Rattle.std.specs.Prelude.{ℕ, Bool, true, false, ◌||◌, not, List, [], ◌∷◌, map, find, Option, Some, None, is_none}
use Rattle.std.specs.Prelude.{unwrap_or, if◌then◌else◌}
use Rattle.std.specs.Prelude.{option_map, option_and_then}
use Rattle.std.specs.List.{flat_map}
use Rattle.deny_text.specs.Path.{components_of, parent_of}
use Rattle.tree_core.specs.declared.reads.ReadRecord.{ReadRecord}
use Rattle.spdx_terms.specs.catalog.Catalog.{CatalogLists}
use Rattle.spdx_core.specs.Reading.{ExpressionView}
use Rattle.graph_core.specs.Krate.{CrateRecord}
use Rattle.tree_core.specs.file_reads.Heard.{ReadResult}
use Rattle.gather_license.specs.files.KnownReads.{FolderReads, holds}
use Rattle.gather_license.specs.files.Pack.{pack_paths, reads_of}
use Rattle.gather_license.specs.files.Steps.{records_by}
use Rattle.gather_license.specs.files.View.{normal_heard, unlisted_of}
use Rattle.gather_license.specs.declared.expression.files.ScannedFile.{ScannedFile}
use Rattle.gather_license.specs.expression.Scanned.{Scanner, file_scanned, names_given}
use Rattle.gather_license.specs.expression.Taken.{field_read, joined_read}
use Rattle.gather_license.specs.declared.clarification.HeldClarification.{HeldClarification}
use Rattle.gather_license.specs.declared.settling.FilesSeen.{FilesSeen}
use Rattle.gather_license.specs.declared.settling.FilesSeen.TheVariants.{Unlisted, Listed}
use Rattle.gather_license.specs.declared.settling.JoinedNames.{JoinedNames}
use Rattle.gather_license.specs.declared.settling.LicenseBasis.{LicenseBasis}
use Rattle.gather_license.specs.declared.settling.LicenseBasis.TheVariants.{Clarified, Field, Files}
use Rattle.gather_license.specs.Clarification.{ClarificationView, named_files, held_in, named_in}
use Rattle.gather_license.specs.Notes.{file_notes, paths_given}

-- ---- the first case: a clarification

-- the first that holds
abbrev pub holding_clarification : FolderReads → List ClarificationView → Option ClarificationView
holding_clarification known_reads clarifications =
    find (λ clarification. holds known_reads (named_in clarification)) clarifications

-- ---- the second case: the crate's field

abbrev pub field_of : CatalogLists → CrateRecord → Option ExpressionView
field_of lists krate = option_and_then (field_read lists) krate.license

-- ---- the third case: the licence files

-- what is read of files, in order
abbrev pub files_heard : FolderReads → List (List ℕ) → List (List ℕ × ReadResult)
files_heard known_reads paths = map (λ path. (path, normal_heard (known_reads.file (components_of path)))) paths

-- what comes of each file of the pack, in path order
abbrev pub files_scanned : Scanner → List ClarificationView → CrateRecord → FolderReads → List ScannedFile
files_scanned scanner clarifications krate known_reads =
    map (file_scanned scanner)
    (files_heard known_reads (pack_paths known_reads krate.license_file (named_files clarifications)))

-- Why the folder was not listed, and then no file is looked at; else what comes of each file.
abbrev pub seen_by : ReadResult → List ScannedFile → FilesSeen
seen_by listing files = unwrap_or (option_map Unlisted (unlisted_of listing)) (Listed files)

abbrev pub scanned_in : FilesSeen → List ScannedFile
scanned_in (Unlisted error) = []
scanned_in (Listed files) = files

-- the names joined, where a file gives one, with the paths of these files and what is noted of all
abbrev pub joined_of : CatalogLists → List ScannedFile → Option JoinedNames
joined_of lists files =
    option_map (λ (expression : ExpressionView).
    record { expression = expression; paths = paths_given files; notes = flat_map file_notes files })
    (joined_read lists (names_given files))

abbrev pub by_seen : CatalogLists → FilesSeen → LicenseBasis
by_seen lists seen = Files seen (joined_of lists (scanned_in seen))

-- ---- the cases, in order

abbrev pub settling_by : Option HeldClarification → Option ExpressionView → LicenseBasis → LicenseBasis
settling_by (Some held) field files = Clarified held
settling_by None (Some expression) files = Field expression
settling_by None None files = files

-- what settles the licence of a crate, by the clarifications that are for it, those of the policy first, and what is
-- read of its files
abbrev pub basis_of : Scanner → List ClarificationView → CrateRecord → FolderReads → LicenseBasis
basis_of scanner clarifications krate known_reads =
    settling_by (option_map held_in (holding_clarification known_reads clarifications)) (field_of scanner.lists krate)
    (by_seen scanner.lists (seen_by known_reads.listing (files_scanned scanner clarifications krate known_reads)))

-- ---- the expression that it gives

-- where an expression comes from: the crate's field, the policy, its exceptions file, or licence files, which are
-- reported by the paths of those that give a name
pub data ExpressionSource : Type 0 where
  metadata : ExpressionSource
  user_override : ExpressionSource
  overlay_override : ExpressionSource
  license_files : List (List ℕ) → ExpressionSource

-- the expression of a crate, where it comes from, and what is noted of the files that it was made of
pub record LicenseAnswer : Type 0 where
  pub expression : ExpressionView
  pub source : ExpressionSource
  pub notes : List (List ℕ)

abbrev pub answer_without_notes : ExpressionSource → ExpressionView → LicenseAnswer
answer_without_notes source expression = record { expression = expression; source = source; notes = [] }

abbrev pub joined_answer : JoinedNames → LicenseAnswer
joined_answer joined =
    record { expression = joined.expression; source = license_files joined.paths; notes = joined.notes }

-- by whether the clarification is one of the exceptions file
abbrev pub override_source : Bool → ExpressionSource
override_source overlay = if overlay then overlay_override else user_override

-- a clarification's as it is in its file, the field's, the names joined where a file gives one
abbrev pub answer_in : LicenseBasis → Option LicenseAnswer
answer_in (Clarified held) = Some (answer_without_notes (override_source held.overlay) held.expression)
answer_in (Field expression) = Some (answer_without_notes metadata expression)
answer_in (Files seen joined) = option_map joined_answer joined

-- the expression of a crate, which what settles its licence gives
abbrev pub priority_of : Scanner → List ClarificationView → CrateRecord → FolderReads → Option LicenseAnswer
priority_of scanner clarifications krate known_reads = answer_in (basis_of scanner clarifications krate known_reads)

-- ---- the records of a crate's reads

-- the folder of the manifest
abbrev pub folder_of : CrateRecord → List ℕ
folder_of krate = unwrap_or (parent_of krate.manifest_path) []

abbrev pub is_nothing : {A : Type 0} → List A → Bool
is_nothing [] = true
is_nothing (x ∷ xs) = false

-- files are looked at where a clarification is for the crate, and where its field gives no expression
abbrev pub looks_at_files : Scanner → List ClarificationView → CrateRecord → Bool
looks_at_files scanner clarifications krate = not (is_nothing clarifications) || is_none (field_of scanner.lists krate)

-- the listing of the folder, and then the files in the order in which they are read
abbrev pub records_with : List ClarificationView → CrateRecord → FolderReads → List ReadRecord
records_with clarifications krate known_reads =
    records_by known_reads (folder_of krate) (reads_of known_reads krate.license_file (named_files clarifications))

abbrev pub records_of : Scanner → List ClarificationView → CrateRecord → FolderReads → List ReadRecord
records_of scanner clarifications krate known_reads =
    if looks_at_files scanner clarifications krate then records_with clarifications krate known_reads else []
