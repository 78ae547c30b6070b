use Rattle.std.proofs.Common.{◌≡◌, ◌++◌, map, take}
use Rattle.run_overrides.specs.Items.{set_to}
use Rattle.run_overrides.proofs.items.push_all.Given as goal

-- those so far are behind what was there before
abbrev pub invariant-subjects : goal.invariant-subjects
invariant-subjects l = l.items ≡ l.initial.items ++ map (set_to l.severity) (take l.subject-index l.subjects)
