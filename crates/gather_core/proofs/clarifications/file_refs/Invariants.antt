use Rattle.std.proofs.Common.{◌≡◌, map, take}
use Rattle.gather_core.specs.Entries.{placed_of}
use Rattle.gather_core.proofs.clarifications.file_refs.Given as goal

abbrev pub invariant-files : goal.invariant-files
invariant-files l = l.refs.items ≡ map placed_of (take l.file-index l.files)
