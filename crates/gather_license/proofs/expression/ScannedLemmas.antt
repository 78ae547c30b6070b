-- Files that are no texts.
use Rattle.std.proofs.Common.{◌≡◌, ℕ, List, refl}
use Rattle.tree_core.specs.declared.file_reads.bad_read.BadRead.{BadRead}
use Rattle.tree_core.specs.declared.file_reads.bad_read.BadRead.TheVariants as bad
use Rattle.tree_core.specs.file_reads.Views.{heard_bad}
use Rattle.gather_license.specs.declared.expression.files.FileResult.TheVariants.{Bad}
use Rattle.gather_license.specs.expression.Scanned.{Scanner, scanned_of}

pub bad_scanned : (scanner : Scanner) (error : BadRead) → scanned_of scanner (heard_bad error) ≡ Bad error
bad_scanned scanner bad.Absent = refl
bad_scanned scanner bad.WrongKind = refl
bad_scanned scanner bad.NotUtf8 = refl
bad_scanned scanner (bad.Failed before after) = refl
