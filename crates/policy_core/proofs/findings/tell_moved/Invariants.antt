-- what was reported so far
use Rattle.std.proofs.Common.{◌≡◌, ◌++◌, codes, map, take}
use Rattle.policy_core.specs.Findings.{moved_key_finding}
use Rattle.policy_core.proofs.findings.tell_moved.Given as goal

abbrev pub invariant-keys : goal.invariant-keys
invariant-keys l = l.found ≡ l.fn.found ++ map (moved_key_finding (codes "graph") l.file) (take l.key-index l.keys)
