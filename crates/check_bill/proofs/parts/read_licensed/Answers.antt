use Rattle.check_bill.proofs.Packages.{licensed_read}
use Rattle.check_bill.proofs.parts.read_licensed.Goals as goal

pub returns : goal.returns
returns c =
    licensed_read c.args.number c.args.bytes.now c.in_ok-concluded.concluded.now c.in_ok-concluded.rest.now c.in_ok-declared.declared.now c.in_ok-declared.rest.now c.in_ok-rest.rest.now c.in_ok-rest-2.rest.now c.in_ok-rest-3.rest.now
    c.in_ok-concluded.ensures c.in_ok-declared.ensures c.in_ok-rest.ensures c.in_ok-rest-2.ensures c.in_ok-rest-3.ensures
