use Rattle.std.proofs.Common.{◌≡◌, ◌≤◌, ◌+◌, ◌-◌, length, drop}
use Rattle.std.specs.List.{prefix_len}
use Rattle.check_bill.specs.Reading.{stays}
use Rattle.check_bill.proofs.steps.line_len.Given as goal

-- the line goes as far from here as it does from its start
abbrev pub invariant-bytes : goal.invariant-bytes
invariant-bytes l = (l.len ≤ length l.bytes) × (l.len + prefix_len stays (drop l.len l.bytes) ≡ prefix_len stays l.bytes)

abbrev pub decreases-bytes : goal.decreases-bytes
decreases-bytes l = length l.bytes - l.len
