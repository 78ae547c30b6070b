-- What is kept of the reads so far.
use Rattle.std.proofs.Common.{◌≡◌, take}
use Rattle.gather_license.specs.Settled.{scanner_of_scan}
use Rattle.gather_license.specs.expression.Kept.{files_kept_in}
use Rattle.gather_license.proofs.expression.kept.all_kept.Given as goal

abbrev pub invariant-reads : goal.invariant-reads
invariant-reads g l =
    l.kept ≡ files_kept_in (scanner_of_scan g.C.Catalog.lists g.I.Identifier.match_of l.scan) l.pack.files (take l.read-index l.read-items)
