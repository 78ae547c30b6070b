-- The words of help: why a file was not read, what is wrong with a text or with metadata, what is not carried.
use Rattle.std.specs.Prelude.{ℕ, List, ◌++◌, length, Option, Some, None, codes, decimal, if◌then◌else◌}
use Rattle.std.specs.Str.{bytes_eq}
use Rattle.deny_text.specs.Path.{file_name_of}
use Rattle.diag_core.specs.declared.severity.Severity.{Severity}
use Rattle.diag_core.specs.declared.severity.Severity.TheVariants.{Help, Note, Warning, Error, Bug}
use Rattle.tree_core.specs.declared.texts.fault.ReadFault.{ReadFault}
use Rattle.tree_core.specs.declared.texts.fault.ReadFault.TheVariants.{Failed, Absent, Folder, NotUtf8}
use Rattle.spdx_terms.specs.catalog.Table.{table_licenses}
use Rattle.spdx_own_names.specs.declared.error.StoreFault.{StoreFault}
use Rattle.spdx_own_names.specs.declared.error.StoreFault.TheVariants as store
use Rattle.toml_subset.specs.declared.error.SyntaxReason.{SyntaxReason}
use Rattle.toml_subset.specs.declared.error.SyntaxReason.TheVariants.{UnexpectedEnd, Unexpected, InvalidEscape}
use Rattle.toml_subset.specs.declared.error.SyntaxReason.TheVariants.{ControlCharacter, NumberForm, NumberRange}
use Rattle.toml_subset.specs.declared.error.SyntaxReason.TheVariants.{Unsupported, DuplicateKey, RedefinedTable}
use Rattle.toml_subset.specs.declared.error.SyntaxReason.TheVariants.{TooDeep}
use Rattle.graph_metadata.specs.declared.fault.MetaReason.{MetaReason}
use Rattle.graph_metadata.specs.declared.fault.MetaReason.TheVariants.{Float, Missing, WrongKind, BadVersion}
use Rattle.graph_metadata.specs.declared.fault.MetaReason.TheVariants.{RepeatedId, UnknownId, NoFolder, UnknownKind}
use Rattle.graph_workspace.specs.declared.error.UnsupportedPart.{UnsupportedPart}
use Rattle.graph_workspace.specs.declared.error.UnsupportedPart.TheVariants.{MetadataPath, Which, Format, Target, Graph}
use Rattle.graph_workspace.specs.declared.error.UnsupportedPart.TheVariants.{Audit, ExcludeSpec}

-- what to give in the place of what is not carried
unfoldable pub what_words : UnsupportedPart → List ℕ
what_words MetadataPath = codes "give --metadata-path: cargo metadata --format-version 1 > metadata.json"
what_words Which = codes "name the check that is carried, and no other: check licenses"
what_words Format = codes "--format sarif is not carried: human or json"
what_words Target = codes "--target is not carried: the crates of all platforms are checked"
what_words Graph = codes "--graph is not carried"
what_words Audit = codes "--audit-compatible-output is not carried"
what_words ExcludeSpec =
    codes "a crate is named as name or name@version, in the words and in the policy's exclude"

-- why a file was not read
unfoldable pub read_words : ReadFault → List ℕ
read_words (Failed before after) = codes "could not be read"
read_words Absent = codes "there is no such file"
read_words Folder = codes "is a folder"
read_words (NotUtf8 at) = codes "is no UTF-8 at byte " ++ decimal at

-- Why a policy was not read. Of a call that failed it is not known which one it was: a look for the policy or for an
-- exceptions file, or the policy's read.
abbrev pub policy_words : ReadFault → List ℕ
policy_words (Failed before after) = codes "could not be read, or a look for it or for deny.exceptions.toml failed"
policy_words Absent = read_words Absent
policy_words Folder = read_words Folder
policy_words (NotUtf8 at) = read_words (NotUtf8 at)

-- Why the texts of a folder were not read. Of a call that failed it is not known which one it was: the folder's
-- listing, or a text's read.
unfoldable pub store_words : StoreFault → List ℕ
store_words (store.Failed before after) = codes "the folder or a text in it could not be read"
store_words store.Absent = codes "there is no such folder, or a file of it is gone"
store_words store.NotFolder = codes "is no folder"
store_words (store.NotUtf8 name) = codes "is no UTF-8"

-- why a text is no text of the subset of TOML
unfoldable pub reason_words : SyntaxReason → List ℕ
reason_words UnexpectedEnd = codes "unexpected end"
reason_words Unexpected = codes "unexpected character"
reason_words InvalidEscape = codes "invalid escape"
reason_words ControlCharacter = codes "control character"
reason_words NumberForm = codes "invalid number"
reason_words NumberRange = codes "number out of range"
reason_words Unsupported = codes "date, time or float that is not carried"
reason_words DuplicateKey = codes "key that stands twice"
reason_words RedefinedTable = codes "table that is there already"
reason_words TooDeep = codes "nested too deep"

-- what is wrong at a place of the metadata
unfoldable pub fault_words : MetaReason → List ℕ
fault_words Float = codes "is a number that is no whole number of 64 bits"
fault_words Missing = codes "is missing"
fault_words WrongKind = codes "is of the wrong kind"
fault_words BadVersion = codes "is no version"
fault_words RepeatedId = codes "is the id of an earlier package"
fault_words UnknownId = codes "is the id of no package"
fault_words NoFolder = codes "has no folder"
fault_words UnknownKind = codes "is no kind of a dependency"

-- the option that asks for a level; notes, warnings and errors are asked for, and no other
unfoldable pub level_option : Severity → List ℕ
level_option Help = codes "--allow"
level_option Note = codes "--allow"
level_option Warning = codes "--warn"
level_option Error = codes "--deny"
level_option Bug = codes "--deny"

-- what is wrong with a path that names no file Cargo.toml
abbrev pub name_words : Option (List ℕ) → List ℕ
name_words (Some name) =
    if bytes_eq name (codes "Cargo.toml") then codes "there is no such file" else codes "its name has to be Cargo.toml"
name_words None = codes "its name has to be Cargo.toml"

unfoldable pub manifest_words : List ℕ → List ℕ
manifest_words path = name_words (file_name_of path)

-- ---- the catalogue

-- what may be wrong with a line of its file
abbrev pub line_words : List ℕ
line_words = codes "is no line of a catalogue, repeats a name, or means a licence that is not in the file"

-- what is built in, and what to do where that is not enough
abbrev pub built_in_words : List ℕ
built_in_words =
    codes "the catalogue has " ++ decimal (length table_licenses)
    ++ codes " licences: cargo deny --catalog FILE names others"

-- the same of a file's
abbrev pub own_words : List ℕ → List ℕ
own_words file = codes "the catalogue is " ++ file ++ codes ": name the licence there"
