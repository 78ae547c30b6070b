use Rattle.std.proofs.Common.{◌≡◌, ◌+◌, ◌≤◌, take, length, vec_len, vec_capacity}
use Rattle.policy_core.specs.valid.View.{policy_of}
use Rattle.check_core.specs.evaluate.Entries.{entries_of_terms}
use Rattle.check_core.specs.evaluate.Evaluation.{term_hits}
use Rattle.check_core.proofs.evaluate.hits.keep_hits.Given as goal

-- the hits of the terms so far
abbrev pub invariant-terms : goal.invariant-terms
invariant-terms g l = record {
  kept : l.kept.items ≡ term_hits (policy_of l.policy) l.exceptions (take l.term-index l.terms);
  as_many : vec_len l.kept ≡ l.term-index;
  room : length l.terms ≤ vec_capacity l.kept;
  same_room : vec_capacity l.kept ≡ vec_capacity l.fn.kept;
  steps : l.fn.steps ≤ l.steps;
  bound : l.steps ≤ l.fn.steps + entries_of_terms (policy_of l.policy) l.exceptions (take l.term-index l.terms);
}
