use Rattle.std.proofs.Common.{◌≡◌, take}
use Rattle.gather_license.specs.Notes as spec
use Rattle.gather_license.proofs.notes.paths_given.Given as goal

abbrev pub invariant-files : goal.invariant-files
invariant-files l = l.paths ≡ spec.paths_given (take l.file-index l.files)
