-- The manifest that is written in place of a crate's own, as one list of pieces.
use Rattle.std.specs.Prelude.{ℕ, ◌==◌, false, List, [], ◌∷◌, ◌++◌, length, codes, Option, Some, None, unwrap_or}
use Rattle.std.specs.Prelude.{if◌then◌else◌}
use Rattle.std.specs.List.{flat_map}
use Rattle.semver.specs.Identifiers.{parts_text}
use Rattle.deny_text.specs.Path.{join_of}
use Rattle.graph_core.specs.Krate.{CrateRecord}
use Rattle.tree_core.specs.declared.file_reads.bad_read.BadRead.{BadRead}
use Rattle.tree_core.specs.declared.file_reads.bad_read.BadRead.TheVariants.{Absent, WrongKind, NotUtf8, Failed}
use Rattle.diag_core.specs.File.{File}
use Rattle.diag_core.specs.texts.Manifest.{closing_pieces, expression_pieces, hash_pieces, listing_pieces}
use Rattle.diag_core.specs.texts.Manifest.{manifest_pieces, opening_pieces, score_text}
use Rattle.diag_core.specs.texts.Synthetic.{Bit, PlacedText, marked, nothing_kept, plain, written_all}
use Rattle.gather_license.specs.declared.expression.files.FileResult.{FileResult}
use Rattle.gather_license.specs.declared.expression.files.FileResult.TheVariants.{Bad, Unnamed, Low, Unknown, Joined}
use Rattle.gather_license.specs.declared.expression.files.ScannedFile.{ScannedFile}

-- why a file is no text, or a folder was not listed
abbrev pub bad_read_text : BadRead → List ℕ
bad_read_text Absent = codes "not found"
bad_read_text WrongKind = codes "is of the wrong kind"
bad_read_text NotUtf8 = codes "not UTF-8"
bad_read_text (Failed before after) = codes "read failed"

-- ---- the list of the files

-- by what comes of a file: its hash, its score and its name, or why it is bad; why it gives no name is marked
abbrev pub scanned_pieces : FileResult → List Bit
scanned_pieces (Bad error) = plain (codes "err = \"") ∷ marked (bad_read_text error) ∷ plain (codes "\"") ∷ []
scanned_pieces (Unnamed hash score) = hash_pieces hash ++ plain (codes "score = ") ∷ marked (score_text score) ∷ []
scanned_pieces (Low hash score name) = hash_pieces hash
    ++ plain (codes "score = ") ∷ marked (score_text score) ∷ plain (codes ", license = \"") ∷ plain name.name
    ∷ plain (codes "\"") ∷ []
scanned_pieces (Unknown hash score name) = hash_pieces hash
    ++ plain (codes "score = ") ∷ plain (score_text score) ∷ plain (codes ", license = \"") ∷ marked name.name
    ∷ plain (codes "\"") ∷ []
scanned_pieces (Joined hash name deprecated) = hash_pieces hash

-- the line of a file, by its path joined to the folder
abbrev pub file_pieces : List ℕ → ScannedFile → List Bit
file_pieces folder file =
    plain (codes "    { path = \"") ∷ plain (join_of folder file.path) ∷ plain (codes "\", ")
    ∷ (scanned_pieces file.scanned ++ plain (codes " },\n") ∷ [])

-- What is seen of a crate's licence files: why the folder was not listed, or what comes of each file, in path order.
-- Where they are not looked at there is none.
pub data SeenFilesView : Type 0 where
  unlisted : BadRead → SeenFilesView
  listed : List ScannedFile → SeenFilesView

abbrev pub list_pieces : List ℕ → List ScannedFile → List Bit
list_pieces folder files = opening_pieces ++ flat_map (file_pieces folder) files ++ closing_pieces

-- a list is written where there are files, or the folder was not listed
abbrev pub seen_pieces : List ℕ → SeenFilesView → List Bit
seen_pieces folder (unlisted error) = listing_pieces (bad_read_text error)
seen_pieces folder (listed files) = if length files == 0 then [] else list_pieces folder files

-- ---- the whole

-- the expression of joined names, where there is one
abbrev pub joined_pieces : Option (List ℕ) → List Bit
joined_pieces None = []
joined_pieces (Some expression) = expression_pieces expression

-- name, version and field, as they are
abbrev pub head_pieces : CrateRecord → List Bit
head_pieces krate = manifest_pieces krate.name (parts_text krate.version) (unwrap_or krate.license [])

-- the manifest, the expression of joined names, and the list of the files
abbrev pub crate_pieces : CrateRecord → List ℕ → Option (List ℕ) → SeenFilesView → List Bit
crate_pieces krate folder joined seen = head_pieces krate ++ joined_pieces joined ++ seen_pieces folder seen

abbrev pub crate_kept : CrateRecord → List ℕ → Option (List ℕ) → SeenFilesView → PlacedText
crate_kept krate folder joined seen = written_all nothing_kept (crate_pieces krate folder joined seen)

-- the file of the table, which no path finds
abbrev pub synthetic_file : CrateRecord → PlacedText → File
synthetic_file krate kept =
    record { name = krate.id ++ codes "-synthesized.toml"; source = kept.text; has_path = false }
