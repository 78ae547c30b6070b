-- The pack with what is left to tell is the whole.
use Rattle.std.proofs.Common.{◌≡◌, map, drop}
use Rattle.check_core.specs.unused.Flags.{flag_at, with_more}
use Rattle.check_core.specs.unused.Unused.{items_without_hit, unused_license}
use Rattle.check_core.proofs.unused.unused.push_licenses.Given as goal

abbrev pub invariant-licensees : goal.invariant-licensees
invariant-licensees g l =
    with_more l.pack (map (unused_license l.severity l.policy.file_id) (items_without_hit (flag_at l.flags) l.place (drop l.place l.policy.allowed)))
    ≡ with_more l.fn.pack (map (unused_license l.severity l.policy.file_id) (items_without_hit (flag_at l.flags) 0 l.policy.allowed))
