use Rattle.std.proofs.Common.{◌≡◌, ◌&&◌, drop}
use Rattle.check_record.specs.Items.{ids_of, is_before, rise_from}
use Rattle.check_record.proofs.decode_parts.ids_rise_from.Given as goal

abbrev pub invariant-items : goal.invariant-items
invariant-items l = (l.rises && rise_from is_before l.last (ids_of (drop l.item-index l.items))) ≡ rise_from is_before l.first (ids_of l.items)
