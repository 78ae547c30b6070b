use Rattle.std.proofs.Common.{◌≡◌, take}
use Rattle.spdx_core.proofs.expression.copies.Given as goal

abbrev pub invariant-terms : goal.invariant-terms
invariant-terms l = l.copies.items ≡ take l.term-index l.terms
