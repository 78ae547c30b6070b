-- What was read, as the values of the code stand for it.
use Rattle.std.specs.Prelude.{ℕ, List, map, Result, Ok, Err}
use Rattle.tree_core.specs.Answer.{listed_entry}
use Rattle.tree_core.specs.declared.tree.Entry.{Entry}
use Rattle.tree_core.specs.declared.file_reads.bad_read.BadRead.{BadRead}
use Rattle.tree_core.specs.declared.file_reads.bad_read.BadRead.TheVariants as bad
use Rattle.tree_core.specs.file_reads.Heard.{ReadResult, failed, absent, wrong_kind, not_utf8, text, entries}

abbrev pub heard_bad : BadRead → ReadResult
heard_bad bad.Absent = absent
heard_bad bad.WrongKind = wrong_kind
heard_bad bad.NotUtf8 = not_utf8
heard_bad (bad.Failed before after) = failed before after

-- a file that was read as a text
abbrev pub heard_file : Result (List ℕ) BadRead → ReadResult
heard_file (Ok bytes) = text bytes
heard_file (Err error) = heard_bad error

-- a folder that was listed
abbrev pub heard_folder : Result (List Entry) BadRead → ReadResult
heard_folder (Ok listing) = entries (map listed_entry listing)
heard_folder (Err error) = heard_bad error
