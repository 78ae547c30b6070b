use Rattle.std.proofs.Common.{◌≡◌, ◌+◌, ◌≤◌, drop, map}
use Rattle.policy_core.specs.valid.Policy.{granted_hit}
use Rattle.policy_core.specs.valid.View.{grant_of}
use Rattle.check_core.specs.evaluate.Entries.{granted_entries}
use Rattle.check_core.proofs.evaluate.hits.granted_hit.Given as goal

-- none of the exceptions so far has a hit, and the steps that are left are those for the others
abbrev pub invariant-exceptions : goal.invariant-exceptions
invariant-exceptions g l =
    let grants = map grant_of l.policy.exceptions in
    record {
      hit : granted_hit grants (drop l.exception-index l.exceptions) l.term ≡ granted_hit grants l.exceptions l.term;
      steps : l.fn.steps ≤ l.steps;
      bound : l.steps + granted_entries grants (drop l.exception-index l.exceptions) l.term ≤ l.fn.steps + granted_entries grants l.exceptions l.term;
    }
