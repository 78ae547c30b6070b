use Rattle.std.proofs.Common.{◌≡◌, ◌↔◌, length}
use Rattle.check_bill.proofs.bill.are_same_packages.Given as goal

-- what is left of both is the same exactly where both are
abbrev pub invariant-packages : goal.invariant-packages
invariant-packages l = (l.left ≡ l.right) ↔ (l.some ≡ l.others)

abbrev pub decreases-packages : goal.decreases-packages
decreases-packages l = length l.left
