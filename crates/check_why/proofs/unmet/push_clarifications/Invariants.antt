-- What was said so far, and what is said at the places that are left, are all.
use Rattle.std.proofs.Common.{◌≡◌, ◌++◌, drop}
use Rattle.check_why.specs.Kept.{clarification_unmet, said_at, until_holds}
use Rattle.check_why.proofs.unmet.push_clarifications.Given as goal

abbrev pub invariant-places : goal.invariant-places
invariant-places l =
    l.unmet ++ said_at until_holds (clarification_unmet l.files l.policy l.kept) (drop l.place-index l.places)
    ≡ l.fn.unmet ++ said_at until_holds (clarification_unmet l.files l.policy l.kept) l.places
