-- What a look-up tells of a file.
use Rattle.std.specs.Prelude.{ℕ, ◌==◌, Bool, true, false}
use Rattle.deny_text.specs.Hash.{xxh32_of}
use Rattle.tree_core.specs.file_reads.Heard.{ReadResult, failed, absent, wrong_kind, not_utf8, text, entries}
use Rattle.gather_license.specs.declared.files.told.FileState.{FileState}
use Rattle.gather_license.specs.declared.files.told.FileState.TheVariants.{Hash, Absent, Other}

-- of what is kept of a file, a text in its normal form
abbrev pub file_state : ReadResult → FileState
file_state (failed before after) = Other
file_state absent = Absent
file_state wrong_kind = Other
file_state not_utf8 = Other
file_state (text normal) = Hash (xxh32_of normal)
file_state (entries listed) = Other

abbrev pub tells_hash : ℕ → FileState → Bool
tells_hash hash (Hash found) = found == hash
tells_hash hash Absent = false
tells_hash hash Other = false

abbrev pub tells_absent : FileState → Bool
tells_absent (Hash found) = false
tells_absent Absent = true
tells_absent Other = false
