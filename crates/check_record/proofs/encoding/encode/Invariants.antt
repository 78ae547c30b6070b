use Rattle.std.proofs.Common.{◌≡◌, ◌++◌, codes, drop, flat_map}
use Rattle.check_record.specs.Spelling.{item_text}
use Rattle.check_record.proofs.encoding.encode.Given as goal

abbrev pub invariant-items : goal.invariant-items
invariant-items l = l.out.items ++ flat_map item_text (drop l.item-index l.verdicts) ≡ codes "deny-record 1\n" ++ flat_map item_text l.verdicts
