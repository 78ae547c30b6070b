use Rattle.check_bill.proofs.Packages.{head_read}
use Rattle.check_bill.proofs.parts.read_head.Goals as goal

pub returns : goal.returns
returns c =
    head_read c.args.bytes.now c.in_ok-name.name.now c.in_ok-name.rest.now c.in_ok-namespace.namespace.now c.in_ok-namespace.rest.now c.in_ok-created.created.now c.in_ok-created.rest.now c.in_ok-rest.rest.now
    c.in_ok-name.ensures c.in_ok-namespace.ensures c.in_ok-created.ensures c.in_ok-rest.ensures
