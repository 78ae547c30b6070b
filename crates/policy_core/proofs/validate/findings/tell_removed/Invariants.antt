-- what was reported so far
use Rattle.std.proofs.Common.{◌≡◌, ◌++◌, map, take}
use Rattle.policy_core.specs.validate.Valid.{removed_key}
use Rattle.policy_core.proofs.validate.findings.tell_removed.Given as goal

abbrev pub invariant-keys : goal.invariant-keys
invariant-keys l = l.found ≡ l.fn.found ++ map (removed_key l.file) (take l.key-index l.keys)
