use Rattle.std.proofs.Common.{◌++◌, string_bytes}
use Rattle.check_bill.specs.Lines.{packages_from}
use Rattle.check_bill.proofs.Lines.{package_written}
use Rattle.check_bill.proofs.writing.push_packages.Goals as goal

pub packages-preserved : goal.packages-preserved
packages-preserved c =
    package_written c.args.packages.now c.packages.place c.index-packages-place.result (string_bytes c.packages.text) (string_bytes c.push_package.new.text) (string_bytes c.args.text.now ++ packages_from 1 c.args.packages.now)
    c.packages-test.true c.index-packages-place.is c.in_ok-push_package.ensures c.packages.invariant
