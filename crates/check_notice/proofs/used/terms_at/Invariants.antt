-- the terms so far, and those at the places that are left, are all
use Rattle.std.proofs.Common.{◌≡◌, ◌++◌, drop, map}
use Rattle.check_notice.specs.Notice.{terms_at}
use Rattle.check_notice.specs.Steps.{lent_term}
use Rattle.check_notice.proofs.used.terms_at.Given as goal

abbrev pub invariant-places : goal.invariant-places
invariant-places l = map lent_term l.used ++ terms_at l.terms (drop l.place-index l.places) ≡ terms_at l.terms l.places
