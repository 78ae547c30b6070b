-- What came of the reads of a crate's files, and what its licence files are.
use Rattle.std.specs.Prelude.{ℕ, List, map, Option, Some, None}
use Rattle.deny_text.specs.Normal.{normal_of}
use Rattle.deny_text.specs.Path.{components_of}
use Rattle.spdx_terms.specs.declared.catalog.identifier.Match.{Match}
use Rattle.tree_core.specs.declared.reads.ReadAnswer.{ReadAnswer as Answer}
use Rattle.tree_core.specs.declared.reads.ReadAnswer.TheVariants.{Got, Absent, WrongKind, NotUtf8, Failed}
use Rattle.tree_core.specs.declared.reads.ReadKind.{ReadKind}
use Rattle.tree_core.specs.declared.reads.ReadKind.TheVariants.{Manifest, Listing, LicenseFile}
use Rattle.tree_core.specs.declared.reads.ReadRecord.{ReadRecord}
use Rattle.tree_core.specs.file_reads.Heard.{ReadResult, failed, absent, wrong_kind, not_utf8, text, entries}
use Rattle.gather_license.specs.declared.expression.files.IdentifiedName.{IdentifiedName}
use Rattle.gather_license.specs.expression.Scanned.{Scanner, name_taken}
use Rattle.gather_license.specs.files.KnownReads.{FolderReads}
use Rattle.check_why.specs.declared.answer.ReadAnswer.{ReadAnswer}
use Rattle.check_why.specs.declared.answer.ReadSaid.{ReadSaid}
use Rattle.check_why.specs.declared.answer.ReadSaid.TheVariants as said

-- ---- licence files

-- a text by the name that is taken for it, whatever score the policy asks for
abbrev pub named_said : ℕ → Option IdentifiedName → ReadSaid
named_said score None = said.Unknown score
named_said score (Some identified) = said.Known identified.name score

-- a text in its normal form
abbrev pub text_said : Scanner → List ℕ → ReadSaid
text_said scanner normal = named_said (scanner.match_of normal).score (name_taken normal (scanner.match_of normal))

-- a licence file that was read
abbrev pub file_said : Scanner → ReadResult → ReadSaid
file_said scanner (failed before after) = said.Failed
file_said scanner absent = said.NotThere
file_said scanner wrong_kind = said.Folder
file_said scanner not_utf8 = said.NotUtf8
file_said scanner (text bytes) = text_said scanner (normal_of bytes)
file_said scanner (entries listed) = said.Folder

-- ---- all reads

-- something else than what was to be read
abbrev pub wrong_said : ReadKind → ReadSaid
wrong_said Manifest = said.Folder
wrong_said Listing = said.NoFolder
wrong_said LicenseFile = said.Folder

-- what was read, a licence file by its text
abbrev pub got_said : Scanner → ReadKind → ReadResult → ReadSaid
got_said scanner Manifest heard = said.Read
got_said scanner Listing heard = said.Read
got_said scanner LicenseFile heard = file_said scanner heard

abbrev pub read_said : Scanner → ReadKind → Answer → ReadResult → ReadSaid
read_said scanner kind Got heard = got_said scanner kind heard
read_said scanner kind Absent heard = said.NotThere
read_said scanner kind WrongKind heard = wrong_said kind
read_said scanner kind NotUtf8 heard = said.NotUtf8
read_said scanner kind (Failed before after) heard = said.Failed

abbrev pub read_answer : Scanner → FolderReads → ReadRecord → ReadAnswer
read_answer scanner known_reads read = record {
  path = read.path;
  said = read_said scanner read.kind read.answer (known_reads.file (components_of read.path));
}

-- the reads of a crate, by what is read of its files
abbrev pub read_answers : Scanner → FolderReads → List ReadRecord → List ReadAnswer
read_answers scanner known_reads reads = map (read_answer scanner known_reads) reads
