use Rattle.std.proofs.Common.{◌≡◌, ◌+◌, ◌≤◌, ◌&&◌, drop}
use Rattle.policy_core.specs.valid.View.{policy_of}
use Rattle.check_verify.specs.Terms.{are_allowed}
use Rattle.check_verify.proofs.entries.are_allowed.Given as goal

-- what was found so far, and what is found of the rest, are all
abbrev pub invariant-hits : goal.invariant-hits
invariant-hits g l = record {
  answer : (l.allowed && are_allowed (policy_of l.policy) l.counted l.terms (drop l.place l.places) (drop l.place l.hits))
      ≡ are_allowed (policy_of l.policy) l.counted l.terms l.places l.hits;
  later : l.fn.steps ≤ l.steps;
  steps : l.steps ≤ l.fn.steps + l.place;
}
