use Rattle.std.proofs.Common.{◌≡◌, ◌+◌, ◌≤◌, drop}
use Rattle.policy_core.specs.valid.View.{policy_of}
use Rattle.check_verify.specs.Reasons.{first_reason}
use Rattle.check_verify.specs.Verified.{all_seen, all_steps}
use Rattle.check_verify.proofs.verifying.first_reason.Given as goal

-- none of the crates so far has a reason, and the steps that are left are those for the others
abbrev pub invariant-crates : goal.invariant-crates
invariant-crates g l = record {
  reason : first_reason (policy_of l.policy) (all_seen (drop l.place l.licenses) (drop l.place l.flags)) (drop l.place l.items)
      ≡ first_reason (policy_of l.policy) (all_seen l.licenses l.flags) l.items;
  later : l.fn.steps ≤ l.steps;
  steps : l.steps + all_steps (policy_of l.policy) (drop l.place l.licenses) (drop l.place l.items) ≤ l.fn.steps + all_steps (policy_of l.policy) l.licenses l.items;
}
