use Rattle.std.proofs.Common.{◌<◌, ◌≤◌, length, refl, arith}
use Rattle.std.proofs.lemmas.List.{drop_all}
use Rattle.diag_core.specs.Position.{line_starts}
use Rattle.diag_core.proofs.ScanLemmas.{passed_more}
use Rattle.diag_core.proofs.line_scan.searched.Goals as goal

pub places-init : goal.places-init
unfolding line_starts
places-init c = refl

pub places-preserved : goal.places-preserved
places-preserved c =
    let within : c.places.place < length c.args.text.now = omega (arith, c.places-test.true) in
    rw c.passed-search.ensures (passed_more c.args.text.now c.places.place 0 c.places.search _ within c.places.invariant)

pub returns : goal.returns
returns c =
    let end : length c.args.text.now ≤ c.places.place = omega (arith, c.places-test.false) in
    rw (drop_all c.places.place c.args.text.now end) at c.places.invariant
