-- Of the crates so far.
use Rattle.std.proofs.Common.{◌≡◌, ◌≤◌, ◌++◌, length}
use Rattle.std.specs.Vec.Iter.{into_iter_items}
use Rattle.policy_core.specs.valid.View.{policy_of}
use Rattle.check_core.proofs.CheckLemmas.{SoFar}
use Rattle.check_core.proofs.StepLemmas.{IsBounded}
use Rattle.check_core.proofs.check.judge_in_order.Given as goal

abbrev pub invariant-licenses : goal.invariant-licenses
invariant-licenses g l = record {
  whole : l.yielded ++ into_iter_items l.license-iterator ≡ l.fn.licenses;
  nodes : l.checker.nodes ≡ l.fn.checker.nodes;
  families : l.checker.families ≡ l.fn.checker.families;
  private : l.checker.private ≡ l.fn.checker.private;
  so_far : SoFar l.policy l.yielded l.reports l.checker.flags l.fn.sink l.sink;
  steps : l.fn.steps ≤ l.steps;
  bound : IsBounded (policy_of l.policy) l.fn.licenses (length l.yielded) l.fn.steps l.steps;
}
