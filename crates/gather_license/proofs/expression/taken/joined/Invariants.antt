-- The text is made of the names so far.
use Rattle.std.proofs.Common.{take}
use Rattle.std.specs.Prelude.{string_bytes}
use Rattle.gather_license.specs.expression.Joined.{IsJoined}
use Rattle.gather_license.specs.expression.Scanned.{names_given}
use Rattle.gather_license.proofs.expression.taken.joined.Given as goal

abbrev pub invariant-files : goal.invariant-files
invariant-files g l = IsJoined (names_given (take l.file-index l.files)) (string_bytes l.text) l.some
