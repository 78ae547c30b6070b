-- The text so far, and that of the places that are left.
use Rattle.std.proofs.Common.{◌≡◌, ◌++◌, drop, string_bytes}
use Rattle.std.specs.List.{flat_map}
use Rattle.run_bill.specs.Licences.{and_term}
use Rattle.run_bill.proofs.licences.push_more.Given as goal

abbrev pub invariant-places : goal.invariant-places
invariant-places l =
    string_bytes l.text ++ flat_map (and_term l.terms) (drop l.place-index l.places)
    ≡ string_bytes l.initial.text ++ flat_map (and_term l.terms) l.places
