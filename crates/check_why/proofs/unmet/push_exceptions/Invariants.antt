-- What was said so far, and what is said at the places that are left, are all.
use Rattle.std.proofs.Common.{◌≡◌, ◌++◌, drop}
use Rattle.std.specs.List.{cons_option}
use Rattle.check_why.specs.Kept.{exception_unmet, said_at}
use Rattle.check_why.proofs.unmet.push_exceptions.Given as goal

abbrev pub invariant-places : goal.invariant-places
invariant-places l =
    l.unmet ++ said_at cons_option (exception_unmet l.files l.policy l.kept) (drop l.place-index l.places)
    ≡ l.fn.unmet ++ said_at cons_option (exception_unmet l.files l.policy l.kept) l.places
