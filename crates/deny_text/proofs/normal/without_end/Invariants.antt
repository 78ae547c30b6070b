use Rattle.std.proofs.Common.{◌≡◌, length}
use denote.Text.{Utf8}
use denote.Shadow.{shadow}
use Rattle.deny_text.specs.Normal.{line_body}
use Rattle.deny_text.proofs.normal.without_end.Given as goal

abbrev pub invariant-ends : goal.invariant-ends
invariant-ends l = shadow (Utf8 l.body) × (line_body l.body ≡ line_body l.line)

abbrev pub decreases-ends : goal.decreases-ends
decreases-ends l = length l.body
