-- The copies so far.
use Rattle.std.proofs.Common.{◌≡◌, take}
use Rattle.check_why.proofs.making.copies.Given as goal

abbrev pub invariant-texts : goal.invariant-texts
invariant-texts l = l.copies ≡ take l.text-index l.texts
