use Rattle.std.proofs.Common.{◌≤◌, ◌-◌, length}
use Rattle.toml_subset.specs.StringViews.{kind_of, IsPlainRun}
use Rattle.toml_subset.proofs.strings.plain_end.Given as goal

-- all bytes so far are plain
abbrev pub invariant-bytes : goal.invariant-bytes
invariant-bytes l = (l.end ≤ length l.bytes) × IsPlainRun (kind_of l.quotes) l.bytes l.place l.end

abbrev pub decreases-bytes : goal.decreases-bytes
decreases-bytes l = length l.bytes - l.end
