-- what was reported so far
use Rattle.std.proofs.Common.{◌≡◌, ◌++◌, map, take}
use Rattle.policy_core.specs.Findings.{target_finding}
use Rattle.policy_core.proofs.findings.tell_targets.Given as goal

abbrev pub invariant-targets : goal.invariant-targets
invariant-targets l = l.found ≡ l.fn.found ++ map (target_finding l.file) (take l.one-index l.targets)
