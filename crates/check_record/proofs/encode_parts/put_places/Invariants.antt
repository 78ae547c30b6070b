use Rattle.std.proofs.Common.{◌≡◌, ◌++◌, drop, flat_map}
use Rattle.deny_text.specs.Fronts.{StandsInFront}
use Rattle.check_record.specs.Spelling.{place_text}
use Rattle.check_record.proofs.encode_parts.put_places.Given as goal

abbrev pub invariant-places : goal.invariant-places
invariant-places l =
    (l.out.items ++ flat_map place_text (drop l.place-index l.places) ≡ l.fn.out.items ++ flat_map place_text l.places)
    × StandsInFront l.fn.out.items l.out.items
