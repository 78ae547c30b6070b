use Rattle.std.proofs.Common.{◌≡◌, ◌+◌, length, count_by}
use Rattle.diag_core.specs.Position.{is_line_feed}
use Rattle.diag_core.proofs.line_scan.line_feeds.Given as goal

-- those that were met, and then those that are left, are all
abbrev pub invariant-feeds : goal.invariant-feeds
invariant-feeds l = l.count + length l.feeds ≡ count_by is_line_feed l.fn.bytes

abbrev pub decreases-feeds : goal.decreases-feeds
decreases-feeds l = length l.feeds
