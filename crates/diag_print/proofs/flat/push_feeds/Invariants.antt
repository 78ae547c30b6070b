use Rattle.std.proofs.Common.{◌≡◌, ◌++◌, string_bytes, length}
use denote.Text.{Utf8}
use denote.Shadow.{shadow}
use Rattle.diag_print.specs.Human.{flat_text}
use Rattle.diag_print.proofs.flat.push_feeds.Given as goal

-- what was written, and the rest on one line, are the whole
abbrev pub invariant-lines : goal.invariant-lines
invariant-lines l = shadow (Utf8 l.rest) × (string_bytes l.out ++ flat_text l.rest ≡ string_bytes l.initial.out ++ flat_text l.text)

abbrev pub decreases-lines : goal.decreases-lines
decreases-lines l = length l.rest
