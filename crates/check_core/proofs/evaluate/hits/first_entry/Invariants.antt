use Rattle.std.proofs.Common.{◌≡◌, ◌+◌, ◌≤◌, map, drop}
use Rattle.std.specs.List.{filter}
use Rattle.policy_parts.specs.spec.Index.{first_of}
use Rattle.policy_core.specs.valid.View.{req_of}
use Rattle.check_core.proofs.evaluate.FamilyLemmas.{satisfied_at}
use Rattle.check_core.proofs.evaluate.hits.first_entry.Given as goal

-- the first place that passes is among the rest, and each place so far took one step at most
abbrev pub invariant-places : goal.invariant-places
invariant-places g l =
    let passes = satisfied_at (map req_of l.licensees) l.term in
    record {
      first : first_of (filter passes l.places) ≡ first_of (filter passes (drop l.place-index l.places));
      steps : l.fn.steps ≤ l.steps;
      bound : l.steps ≤ l.fn.steps + l.place-index;
    }
