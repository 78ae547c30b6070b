use Rattle.std.proofs.Common.{arith, take_all}
use Rattle.diag_print.specs.Printed.{printed_at}
use Rattle.diag_print.proofs.FindingsLemmas.{all_left, one_pending, one_pending_cut, of_refusal}
use Rattle.diag_print.proofs.findings.print_all.Goals as goal

pub findings-preserved : goal.findings-preserved
findings-preserved g c =
    let before = c.findings.invariant in
    let begun = before.0 in
    let earlier = before.1 in
    let later = c.in_ok-add_one.ensures.later in (
      omega arith,
      omega arith,
      one_pending (printed_at c.args.printer.now c.args.files.now) c.args.findings.now c.findings.finding-index c.finding-item.result _ _ _ _
          c.findings-test.true c.finding-item.is before.2 _ c.in_ok-add_one.ensures.ok,
    )

pub returns-in_err-add_one-clause-err : goal.returns-in_err-add_one-clause-err
returns-in_err-add_one-clause-err g c =
    of_refusal c.from_residual.result _
    (one_pending_cut (printed_at c.args.printer.now c.args.files.now) c.args.findings.now c.findings.finding-index c.finding-item.result _ _ _ _
    c.findings-test.true c.finding-item.is c.findings.invariant.2 c.in_err-add_one.ensures.err)

pub returns-clause-err : goal.returns-clause-err
returns-clause-err g c =
    all_left (printed_at c.args.printer.now c.args.files.now) c.args.findings.now c.findings.finding-index _ _ _ _ c.findings.invariant.2
    (take_all c.findings.finding-index c.args.findings.now c.findings-test.false) c.flush.result c.flush.ensures.err
