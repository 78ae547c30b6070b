use Rattle.std.proofs.Common.{◌≡◌, ◌++◌, flat_map, take}
use Rattle.licence_hash.specs.Entry.{in_string}
use Rattle.licence_hash.proofs.entry.push_bytes.Given as goal

abbrev pub invariant-bytes : goal.invariant-bytes
invariant-bytes l = l.line.items ≡ l.fn.line.items ++ flat_map in_string (take l.byte-index l.bytes)
