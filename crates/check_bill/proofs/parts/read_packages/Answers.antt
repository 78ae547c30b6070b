use Rattle.std.proofs.Common.{◌+◌, ◌∙◌, sym, subst, List, [], length}
use Rattle.check_bill.specs.declared.bill.BillPackage.{BillPackage}
use Rattle.check_bill.specs.Reading.{Misses, package_at, packages_on}
use Rattle.check_bill.proofs.Loops.{packages_fail}
use Rattle.check_bill.proofs.parts.read_packages.Goals as goal

pub returns-in-Err : goal.returns-in-Err
returns-in-Err c =
    let bytes = c.args.bytes.now in
    packages_fail c.in-Err.error c.packages.packages c.packages.rest.now (packages_on (length bytes) [] bytes) (sym c.has_more.ensures ∙ c.packages-test.true)
    (subst (λ (packages : List BillPackage). Misses c.in-Err.error (package_at (length packages + 1) c.packages.rest.now)) c.items.ensures c.in-Err.ensures) c.packages.invariant
