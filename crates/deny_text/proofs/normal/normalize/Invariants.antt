use Rattle.std.proofs.Common.{◌≡◌, ◌++◌, length}
use Rattle.std.specs.String.{string_bytes}
use denote.Text.{Utf8}
use denote.Shadow.{shadow}
use Rattle.deny_text.specs.Normal.{normal_of}
use Rattle.deny_text.proofs.normal.normalize.Given as goal

-- what was written, and the normal form of the rest, are the whole
abbrev pub invariant-lines : goal.invariant-lines
invariant-lines l = shadow (Utf8 l.rest) × (string_bytes l.normal ++ normal_of l.rest ≡ normal_of l.text)

abbrev pub decreases-lines : goal.decreases-lines
decreases-lines l = length l.rest
