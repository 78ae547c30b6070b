-- the lines of the crates so far
use Rattle.std.proofs.Common.{◌≡◌, take}
use Rattle.std.specs.List.{flat_map}
use Rattle.std.specs.Prelude.{string_bytes}
use Rattle.check_notice.specs.Written.{crate_text}
use Rattle.check_notice.proofs.written.notice_head.Given as goal

abbrev pub invariant-crates : goal.invariant-crates
invariant-crates l = string_bytes l.text ≡ flat_map crate_text (take l.told-index l.notice.crates)
