use Rattle.std.proofs.Common.{◌≡◌, ◌≤◌, [], drop, length, reverse, vec_len, vec_capacity}
use Rattle.spdx_core.specs.certificates.Certificates.{has_hit}
use Rattle.check_core.specs.evaluate.Answers.{answers_over}
use Rattle.check_core.proofs.evaluate.answers.is_accepted.Given as goal

-- the nodes that are left lead to what all lead to, and no more answers wait than there were nodes
abbrev pub invariant-nodes : goal.invariant-nodes
invariant-nodes l = record {
  goes_on : answers_over (has_hit l.kept) (reverse l.answers.items) (drop l.node-index l.nodes) ≡ answers_over (has_hit l.kept) [] l.nodes;
  few : vec_len l.answers ≤ l.node-index;
  room : length l.nodes ≤ vec_capacity l.answers;
  same_room : vec_capacity l.answers ≡ vec_capacity l.fn.answers;
}
