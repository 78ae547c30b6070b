use Rattle.std.proofs.Common.{◌≡◌, ◌≤◌, ◌+◌, ◌-◌, length, drop}
use Rattle.std.specs.List.{prefix_len}
use Rattle.spdx_terms.specs.Tokens.{goes_on_over}
use Rattle.spdx_terms.proofs.item.Token.rest_len.Given as goal

-- the run goes as far from here as it does from its start
abbrev pub invariant-bytes : goal.invariant-bytes
invariant-bytes l = (l.len ≤ length l.rest) × (l.len + prefix_len (goes_on_over l.self) (drop l.len l.rest) ≡ prefix_len (goes_on_over l.self) l.rest)

abbrev pub decreases-bytes : goal.decreases-bytes
decreases-bytes l = length l.rest - l.len
