-- The hits so far.
use Rattle.std.proofs.Common.{◌≡◌, take}
use Rattle.policy_core.specs.valid.View.{policy_of}
use Rattle.check_core.specs.evaluate.Evaluation.{term_hits}
use Rattle.check_why.proofs.places.hits_of.Given as goal

abbrev pub invariant-terms : goal.invariant-terms
invariant-terms g l = l.hits.items ≡ term_hits (policy_of l.policy) l.exceptions (take l.term-index l.terms)
