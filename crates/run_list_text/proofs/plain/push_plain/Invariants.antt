use Rattle.std.proofs.Common.{◌≡◌, ◌++◌, take}
use Rattle.run_list_text.specs.Listing.{plain_text}
use Rattle.run_list_text.proofs.plain.push_plain.Given as goal

abbrev pub invariant-places : goal.invariant-places
invariant-places l = l.out.items ≡ l.fn.out.items ++ plain_text (take l.byte-index l.bytes)
