-- what was reported so far
use Rattle.std.proofs.Common.{◌≡◌, ◌++◌, take}
use Rattle.policy_core.specs.validate.Valid.{version_findings}
use Rattle.policy_core.proofs.validate.entries.tell_versions.Given as goal

abbrev pub invariant-exceptions : goal.invariant-exceptions
invariant-exceptions l = l.found ≡ l.fn.found ++ version_findings l.version l.file (take l.exception-index l.exceptions)
