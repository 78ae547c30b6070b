use Rattle.std.proofs.Common.{◌≡◌, ◌++◌, string_bytes, take}
use Rattle.std.specs.List.{flat_map}
use Rattle.diag_stats.specs.Human.{full_line}
use Rattle.diag_stats.proofs.human.push_lines.Given as goal

-- a line was written for each check so far
abbrev pub invariant-checks : goal.invariant-checks
invariant-checks l = string_bytes l.out ≡ string_bytes l.initial.out ++ flat_map (full_line l.column) (take l.check-index l.checks)
