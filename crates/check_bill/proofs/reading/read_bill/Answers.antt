use Rattle.std.proofs.lemmas.Result.{err_from_is_err_and}
use Rattle.check_bill.proofs.Files.{read_fails, whole_takes}
use Rattle.check_bill.proofs.reading.read_bill.Goals as goal

pub returns : goal.returns
returns c = whole_takes c.args.bytes.now c.in_ok-bill.bill c.in_ok-bill.ensures

pub returns-in_err-bill : goal.returns-in_err-bill
returns-in_err-bill c =
    let p = err_from_is_err_and c.from_residual.result c.from_residual.ensures.1 in
    rw (p.1, p.2) (read_fails c.in_err-bill.field-0.0 c.args.bytes.now c.in_err-bill.ensures)
