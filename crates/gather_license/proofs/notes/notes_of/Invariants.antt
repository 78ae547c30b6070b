use Rattle.std.proofs.Common.{◌≡◌, take}
use Rattle.std.specs.List.{flat_map}
use Rattle.gather_license.specs.Notes.{file_notes}
use Rattle.gather_license.proofs.notes.notes_of.Given as goal

abbrev pub invariant-files : goal.invariant-files
invariant-files l = l.notes ≡ flat_map file_notes (take l.file-index l.files)
