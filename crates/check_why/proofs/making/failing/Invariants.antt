-- The places so far.
use Rattle.std.proofs.Common.{◌≡◌, take}
use Rattle.check_why.specs.Answer.{failing}
use Rattle.check_why.proofs.making.failing.Given as goal

abbrev pub invariant-choice : goal.invariant-choice
invariant-choice l = l.places ≡ failing l.hits (take l.place-index l.choice)
