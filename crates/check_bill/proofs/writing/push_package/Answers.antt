use Rattle.std.proofs.Common.{string_bytes}
use Rattle.check_bill.proofs.Lines.{package_made}
use Rattle.check_bill.proofs.writing.push_package.Goals as goal

pub returns : goal.returns
returns c =
    package_made c.args.number c.args.krate.now (string_bytes c.args.text.now) (string_bytes c.push_named.new.text) (string_bytes c.push_licensed.new.text)
    c.in_ok-push_named.ensures c.in_ok-push_licensed.ensures
