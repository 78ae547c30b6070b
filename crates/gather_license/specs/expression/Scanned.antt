-- What the licence files of a crate are identified as.
use Rattle.std.specs.Prelude.{ℕ, nat_le, nat_eq, Bool, true, false, List, codes, Option, Some, None, option_map}
use Rattle.std.specs.Prelude.{if◌then◌else◌}
use Rattle.std.specs.List.{filter_map, starts_with}
use Rattle.std.specs.Str.{bytes_eq, trim_start}
use Rattle.deny_text.specs.Hash.{xxh32_of}
use Rattle.deny_text.specs.Normal.{normal_of}
use Rattle.spdx_terms.specs.declared.catalog.catalog.LicenseEntry.{LicenseEntry}
use Rattle.spdx_terms.specs.declared.catalog.identifier.Match.{Match}
use Rattle.spdx_terms.specs.catalog.Catalog.{CatalogLists, entry_of}
use Rattle.spdx_terms.specs.catalog.Identifier.{no_match}
use Rattle.tree_core.specs.declared.file_reads.bad_read.BadRead.TheVariants as bad
use Rattle.tree_core.specs.file_reads.Heard.{ReadResult, failed, absent, wrong_kind, not_utf8, text, entries}
use Rattle.gather_license.specs.declared.expression.files.IdentifiedName.{IdentifiedName}
use Rattle.gather_license.specs.declared.expression.files.FileResult.{FileResult}
use Rattle.gather_license.specs.declared.expression.files.FileResult.TheVariants.{Bad, Unnamed, Low, Unknown, Joined}
use Rattle.gather_license.specs.declared.expression.files.ScannedFile.{ScannedFile}

-- what texts are identified by: a catalogue, what an identifier says of each text, and the least score, in hundredths,
-- that is enough; and whether it is kept what each licence file is
pub record Scanner : Type 0 where
  pub lists : CatalogLists
  pub match_of : List ℕ → Match
  pub threshold : ℕ
  pub keeps : Bool

-- what is said of a text by an identifier, where there is one; else no text is identified
abbrev pub match_by : {I : Type 0} → (I → List ℕ → Match) → Option I → List ℕ → Match
match_by match_of None normal = no_match
match_by match_of (Some identifier) normal = match_of identifier normal

-- ---- the name of a text

-- the text, without white space at its start, begins as that of the licence `Pixar` does
abbrev pub begins_as_pixar : List ℕ → Bool
begins_as_pixar normal = starts_with nat_eq (trim_start normal) (codes "Modified Apache 2.0 License")

-- The text of `Pixar` is that of `Apache-2.0` but for little, so a text that does not begin as it should is the latter.
abbrev pub identified_name : List ℕ → List ℕ → IdentifiedName
identified_name normal name =
    if bytes_eq name (codes "Pixar")
    then (if begins_as_pixar normal then record { name = name; renamed = false }
    else record { name = codes "Apache-2.0"; renamed = true })
    else record { name = name; renamed = false }

-- a name is taken at a score of 50 or more
abbrev pub name_taken : List ℕ → Match → Option IdentifiedName
name_taken normal found = if nat_le 50 found.score then option_map (identified_name normal) found.name else None

-- ---- what comes of a file

-- a name whose score is enough, by what the catalogue says of it
abbrev pub known_by : ℕ → ℕ → IdentifiedName → Option LicenseEntry → FileResult
known_by hash score name None = Unknown hash score name
known_by hash score name (Some entry) = Joined hash name entry.deprecated

abbrev pub named_by : CatalogLists → ℕ → ℕ → ℕ → IdentifiedName → FileResult
named_by lists threshold hash score name =
    if nat_le threshold score then known_by hash score name (entry_of lists.licenses name.name) else Low hash score name

abbrev pub taken_by : CatalogLists → ℕ → ℕ → ℕ → Option IdentifiedName → FileResult
taken_by lists threshold hash score None = Unnamed hash score
taken_by lists threshold hash score (Some name) = named_by lists threshold hash score name

-- of a text in its normal form
abbrev pub text_scanned : Scanner → List ℕ → FileResult
text_scanned scanner normal =
    taken_by scanner.lists scanner.threshold (xxh32_of normal) (scanner.match_of normal).score
    (name_taken normal (scanner.match_of normal))

-- of what is read of a file, a text in its normal form; a file is never read as entries
abbrev pub scanned_of : Scanner → ReadResult → FileResult
scanned_of scanner (failed before after) = Bad (bad.Failed before after)
scanned_of scanner absent = Bad bad.Absent
scanned_of scanner wrong_kind = Bad bad.WrongKind
scanned_of scanner not_utf8 = Bad bad.NotUtf8
scanned_of scanner (text normal) = text_scanned scanner normal
scanned_of scanner (entries listed) = Bad bad.WrongKind

-- a file and what is read of it, as what comes of it
abbrev pub file_scanned : Scanner → List ℕ × ReadResult → ScannedFile
file_scanned scanner file = record { path = file.0; scanned = scanned_of scanner file.1 }

-- ---- what is joined

abbrev pub joined_name : FileResult → Option (List ℕ)
joined_name (Bad error) = None
joined_name (Unnamed hash score) = None
joined_name (Low hash score name) = None
joined_name (Unknown hash score name) = None
joined_name (Joined hash name deprecated) = Some name.name

-- the names of the files that give one, in order
abbrev pub names_given : List ScannedFile → List (List ℕ)
names_given files = filter_map (λ (file : ScannedFile). joined_name file.scanned) files
