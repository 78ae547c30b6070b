use Rattle.std.proofs.Common.{◌≡◌, drop}
use Rattle.check_verify.specs.Terms.{kept_at}
use Rattle.check_verify.proofs.certificates.keep_at.Given as goal

-- what is kept so far leads to all
abbrev pub invariant-places : goal.invariant-places
invariant-places l = kept_at l.kept.items (drop l.place-index l.places) l.hit ≡ kept_at l.fn.kept.items l.places l.hit
