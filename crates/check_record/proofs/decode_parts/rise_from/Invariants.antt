use Rattle.std.proofs.Common.{◌≡◌, ◌&&◌, drop, nat_lt}
use Rattle.check_record.specs.Items.{rise_from}
use Rattle.check_record.proofs.decode_parts.rise_from.Given as goal

abbrev pub invariant-places : goal.invariant-places
invariant-places l = (l.rises && rise_from nat_lt l.last (drop l.place-index l.places)) ≡ rise_from nat_lt l.first l.places
