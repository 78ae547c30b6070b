-- the numbers so far
use Rattle.std.proofs.Common.{◌≡◌, map, take}
use Rattle.check_core.specs.evaluate.Private.{address_number}
use Rattle.check_core.proofs.evaluate.private_index.index_of_addresses.Given as goal

abbrev pub invariant-addresses : goal.invariant-addresses
invariant-addresses l = l.numbers ≡ map address_number (take l.address-index l.addresses)
