use Rattle.std.proofs.Common.{◌≡◌, ◌+◌, ◌≤◌, ◌||◌, drop, sum_by, take}
use Rattle.std.specs.List.{list_any}
use Rattle.policy_core.specs.valid.View.{policy_of}
use Rattle.check_verify.specs.Terms.{entries_at, hit_or_none_by}
use Rattle.check_verify.proofs.entries.any_has_hit.Given as goal

-- what was found so far, and what is found of the rest, are all
abbrev pub invariant-places : goal.invariant-places
invariant-places g l = record {
  answer : (l.found || list_any (hit_or_none_by (policy_of l.policy) l.counted l.terms) (drop l.place-index l.places))
      ≡ list_any (hit_or_none_by (policy_of l.policy) l.counted l.terms) l.places;
  later : l.fn.steps ≤ l.steps;
  steps : l.steps ≤ l.fn.steps + sum_by (entries_at (policy_of l.policy) l.counted l.terms) (take l.place-index l.places);
}
