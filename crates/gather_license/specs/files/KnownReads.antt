-- What is read of a crate's files, whatever they are read by, and which clarification holds by it.
use Rattle.std.specs.Prelude.{ℕ, ◌+◌, ◌==◌, Bool, true, false, List, [], ◌∷◌, Option, Some, None, if◌then◌else◌}
use Rattle.std.specs.List.{list_all}
use Rattle.deny_text.specs.Hash.{xxh32_of}
use Rattle.deny_text.specs.Normal.{normal_of}
use Rattle.deny_text.specs.Path.{components_of}
use Rattle.tree_core.specs.declared.reads.ReadKind.TheVariants.{Listing, LicenseFile}
use Rattle.tree_core.specs.file_reads.Heard.{ReadResult, failed, absent, wrong_kind, not_utf8, text, entries, is_kind}
use Rattle.tree_core.specs.file_reads.Heard.{is_read}
use Rattle.tree_core.specs.file_reads.Read.{AnsweredRead, first_heard}
use Rattle.gather_license.specs.files.NamedFile.{NamedFileView}

-- what is read of the listing of a crate's folder, and of the file at a path of some parts
pub record FolderReads : Type 0 where
  pub listing : ReadResult
  pub file : List (List ℕ) → ReadResult

-- What the answers to a crate's reads say: that of the first listing; of a file, that of the first read at a path of
-- these parts. Where none was read, nothing is there.
abbrev pub known_reads_by : List AnsweredRead → FolderReads
known_reads_by reads = record {
  listing = first_heard (λ read. is_kind Listing read.kind) reads;
  file = λ parts. first_heard (is_read LicenseFile parts) reads;
}

-- a text whose normal form has the hash
abbrev pub has_hash : ℕ → ReadResult → Bool
has_hash hash (failed before after) = false
has_hash hash absent = false
has_hash hash wrong_kind = false
has_hash hash not_utf8 = false
has_hash hash (text bytes) = xxh32_of (normal_of bytes) == hash
has_hash hash (entries listed) = false

-- the file is read as a text whose normal form has the stated hash
abbrev pub matches : FolderReads → NamedFileView → Bool
matches known_reads named = has_hash named.hash (known_reads.file (components_of named.path))

-- a clarification holds where each of its files matches
abbrev pub holds : FolderReads → List NamedFileView → Bool
holds known_reads files = list_all (matches known_reads) files

-- the files of a clarification that are looked up: up to and with the first that does not match
abbrev pub looked_of : FolderReads → List NamedFileView → List (List ℕ)
looked_of known_reads [] = []
looked_of known_reads (named ∷ files) =
    named.path ∷ (if matches known_reads named then looked_of known_reads files else [])

-- nothing is there
abbrev pub is_absent : ReadResult → Bool
is_absent (failed before after) = false
is_absent absent = true
is_absent wrong_kind = false
is_absent not_utf8 = false
is_absent (text bytes) = false
is_absent (entries listed) = false

-- the number of the first file that does not match, where nothing is there; files are counted on from a number
abbrev pub missing_from : FolderReads → ℕ → List NamedFileView → Option ℕ
missing_from known_reads number [] = None
missing_from known_reads number (named ∷ files) =
    if matches known_reads named then missing_from known_reads (number + 1) files
    else (if is_absent (known_reads.file (components_of named.path)) then Some number else None)

-- the clarifications that are tried: up to and with the first that holds, or all
abbrev pub tried_of : FolderReads → List (List NamedFileView) → List (List NamedFileView)
tried_of known_reads [] = []
tried_of known_reads (files ∷ more) = files ∷ (if holds known_reads files then [] else tried_of known_reads more)
