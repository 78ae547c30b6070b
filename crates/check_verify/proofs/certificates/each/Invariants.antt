use Rattle.std.proofs.Common.{◌≡◌, replicate}
use Rattle.check_verify.proofs.certificates.each.Given as goal

abbrev pub invariant-places : goal.invariant-places
invariant-places l = l.list.items ≡ replicate l._place l.kept
