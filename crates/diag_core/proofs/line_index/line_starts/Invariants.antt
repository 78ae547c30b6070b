use Rattle.std.proofs.Common.{◌≡◌, ◌+◌, ◌<◌, ◌++◌, All, length, map}
use Rattle.memchr.specs.Find.{Passes, is_byte}
use Rattle.diag_core.specs.Position.{line_starts}
use Rattle.diag_core.proofs.line_index.line_starts.Given as goal

-- the starts so far, and then those behind the line feeds that are left, are all
abbrev pub invariant-feeds : goal.invariant-feeds
invariant-feeds l = record {
  lines : l.starts.items ++ map (λ feed. feed + 1) l.feeds ≡ line_starts l.fn.text;
  within : All (λ feed. (feed < length l.fn.text) × Passes (is_byte 10) l.fn.text feed) l.feeds;
}

abbrev pub decreases-feeds : goal.decreases-feeds
decreases-feeds l = length l.feeds
