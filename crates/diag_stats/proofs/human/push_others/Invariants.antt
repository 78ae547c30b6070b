use Rattle.std.proofs.Common.{◌≡◌, ◌++◌, string_bytes, take}
use Rattle.std.specs.List.{flat_map}
use Rattle.diag_stats.specs.Human.{behind_comma}
use Rattle.diag_stats.proofs.human.push_others.Given as goal

-- each check so far was written behind a comma
abbrev pub invariant-checks : goal.invariant-checks
invariant-checks l = string_bytes l.out ≡ string_bytes l.initial.out ++ flat_map behind_comma (take l.check-index l.checks)
