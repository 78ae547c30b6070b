-- The files so far, and what comes of the rest, are what comes of all.
use Rattle.std.proofs.Common.{◌≡◌, ◌++◌, List, ℕ, length, map}
use Rattle.tree_core.specs.file_reads.Heard.{ReadResult}
use Rattle.gather_license.specs.Settled.{scanner_of_scan}
use Rattle.gather_license.specs.expression.Scanned.{Scanner, file_scanned}
use Rattle.gather_license.proofs.expression.files.scan_pack.Given as goal

abbrev pub invariant-files : goal.invariant-files
invariant-files g l =
    let scanner : Scanner = scanner_of_scan g.C.Catalog.lists g.I.Identifier.match_of l.scan in
    l.files ++ map (file_scanned scanner) l.rest ≡ map (file_scanned scanner) l.pack.files

abbrev pub decreases-files : goal.decreases-files
decreases-files g l = length l.rest
