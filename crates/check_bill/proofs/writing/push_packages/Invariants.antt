use Rattle.std.proofs.Common.{◌≡◌, ◌+◌, ◌++◌, drop, string_bytes}
use Rattle.check_bill.specs.Lines.{packages_from}
use Rattle.check_bill.proofs.writing.push_packages.Given as goal

-- what was written, with the packages that are left, is all
abbrev pub invariant-packages : goal.invariant-packages
invariant-packages l =
    string_bytes l.text ++ packages_from (l.place + 1) (drop l.place l.packages) ≡ string_bytes l.fn.text ++ packages_from 1 l.packages
