-- the keys so far are appended
use Rattle.std.proofs.Common.{◌≡◌, ◌++◌, take}
use Rattle.std.specs.Prelude.{string_bytes}
use Rattle.check_notice.specs.Written.{keys_behind}
use Rattle.check_notice.proofs.written.push_further.Given as goal

abbrev pub invariant-keys : goal.invariant-keys
invariant-keys l = string_bytes l.text ≡ string_bytes l.fn.text ++ keys_behind (take l.key-index l.keys)
