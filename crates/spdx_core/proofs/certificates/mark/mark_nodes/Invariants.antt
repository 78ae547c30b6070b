use Rattle.std.proofs.Common.{◌≡◌, ◌≤◌, drop}
use Rattle.spdx_core.specs.certificates.Certificates.{has_hit}
use Rattle.spdx_core.specs.certificates.Machine.{marked_of, marks_after, no_marks, total}
use Rattle.spdx_core.proofs.certificates.mark.mark_nodes.Given as goal

-- the nodes that are left lead to what all lead to, and no count is above the number of nodes so far
abbrev pub invariant-nodes : goal.invariant-nodes
invariant-nodes l = record {
  goes_on : marks_after (has_hit l.kept) (marked_of l.marking) (drop l.node-index l.nodes) ≡ marks_after (has_hit l.kept) no_marks l.nodes;
  small : total (marked_of l.marking).counts ≤ l.node-index;
}
