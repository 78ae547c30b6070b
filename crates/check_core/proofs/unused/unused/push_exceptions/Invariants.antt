-- The pack with what is left to tell is the whole.
use Rattle.std.proofs.Common.{◌≡◌, drop}
use Rattle.check_core.specs.unused.Flags.{flag_at, with_more}
use Rattle.check_core.specs.unused.Unused.{own_findings, items_without_hit}
use Rattle.check_core.proofs.unused.unused.push_exceptions.Given as goal

abbrev pub invariant-exceptions : goal.invariant-exceptions
invariant-exceptions g l =
    with_more l.pack (own_findings l.severity l.policy.file_id (items_without_hit (flag_at l.flags) l.place (drop l.place l.policy.exceptions)))
    ≡ with_more l.fn.pack (own_findings l.severity l.policy.file_id (items_without_hit (flag_at l.flags) 0 l.policy.exceptions))
