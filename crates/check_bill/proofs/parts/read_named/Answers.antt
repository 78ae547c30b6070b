use Rattle.check_bill.proofs.Packages.{named_read}
use Rattle.check_bill.proofs.parts.read_named.Goals as goal

pub returns : goal.returns
returns c =
    named_read c.args.number c.args.bytes.now c.in_ok-name.name.now c.in_ok-name.rest.now c.in_ok-rest.rest.now c.in_ok-rest-2.rest.now c.in_ok-version.version.now c.in_ok-version.rest.now
    c.in_ok-name.ensures c.in_ok-rest.ensures c.in_ok-rest-2.ensures c.in_ok-version.ensures
