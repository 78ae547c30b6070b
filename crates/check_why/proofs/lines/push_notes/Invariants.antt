use Rattle.std.proofs.Common.{◌≡◌, ◌++◌, string_bytes, take}
use Rattle.std.specs.List.{flat_map}
use Rattle.diag_print.specs.Human.{note_line}
use Rattle.check_why.proofs.lines.push_notes.Given as goal

-- a line was written for each note so far
abbrev pub invariant-notes : goal.invariant-notes
invariant-notes l = string_bytes l.out ≡ string_bytes l.initial.out ++ flat_map note_line (take l.note-index l.notes)
