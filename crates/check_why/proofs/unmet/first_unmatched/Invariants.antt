-- The first of all is that of the files that are left.
use Rattle.std.proofs.Common.{◌≡◌, drop}
use Rattle.check_why.specs.Kept.{first_unmatched}
use Rattle.check_why.proofs.unmet.first_unmatched.Given as goal

abbrev pub invariant-files : goal.invariant-files
invariant-files l = first_unmatched l.kept l.files ≡ first_unmatched l.kept (drop l.named-index l.files)
