-- The copies so far.
use Rattle.std.proofs.Common.{◌≡◌, take}
use Rattle.check_core.proofs.findings.told.notes_copy.Given as goal

abbrev pub invariant-notes : goal.invariant-notes
invariant-notes l = l.copies ≡ take l.note-index l.notes
