use Rattle.std.proofs.Common.{◌≡◌, take}
use Rattle.std.specs.Prelude.{◌-◌, ◌^◌, min}
use Rattle.std.specs.List.{sum_by}
use Rattle.diag_stats.specs.Counts.{count_in}
use Rattle.diag_stats.proofs.stats.count_at.Given as goal

-- the findings of the first packs, or as many as 64 bits tell
abbrev pub invariant-packs : goal.invariant-packs
invariant-packs l = l.count ≡ min (sum_by (count_in l.severity) (take l.pack-index l.packs)) (2 ^ 64 - 1)
