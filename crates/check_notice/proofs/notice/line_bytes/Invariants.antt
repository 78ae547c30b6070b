-- the line so far
use Rattle.std.proofs.Common.{◌≡◌, take}
use Rattle.check_notice.specs.Notice.{in_line}
use Rattle.check_notice.proofs.notice.line_bytes.Given as goal

abbrev pub invariant-bytes : goal.invariant-bytes
invariant-bytes l = l.line ≡ in_line (take l.byte-index l.text)
