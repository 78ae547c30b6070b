use Rattle.std.proofs.Common.{arith, take_all}
use Rattle.diag_core.specs.Pack.{PackOf}
use Rattle.diag_print.specs.Printed.{all_printed_at}
use Rattle.diag_print.proofs.FindingsLemmas.{all_left, one_pending, one_pending_cut, of_refusal}
use Rattle.diag_print.proofs.findings.print_each.Goals as goal

pub packs-preserved : goal.packs-preserved
packs-preserved g c =
    let before = c.packs.invariant in
    let begun = before.0 in
    let earlier = before.1 in
    let later = c.in_ok-add_pack.ensures.later in (
      omega arith,
      omega arith,
      one_pending (λ (pack : PackOf). all_printed_at c.args.printer.now c.args.files.now pack.findings) c.args.packs.now c.packs.pack-index c.pack-item.result _ _ _ _
          c.packs-test.true c.pack-item.is before.2 _ c.in_ok-add_pack.ensures.ok,
    )

pub returns-in_err-add_pack-clause-err : goal.returns-in_err-add_pack-clause-err
returns-in_err-add_pack-clause-err g c =
    of_refusal c.from_residual.result _
    (one_pending_cut (λ (pack : PackOf). all_printed_at c.args.printer.now c.args.files.now pack.findings) c.args.packs.now c.packs.pack-index c.pack-item.result _ _ _ _
    c.packs-test.true c.pack-item.is c.packs.invariant.2 c.in_err-add_pack.ensures.err)

pub returns-clause-err : goal.returns-clause-err
returns-clause-err g c =
    all_left (λ (pack : PackOf). all_printed_at c.args.printer.now c.args.files.now pack.findings) c.args.packs.now c.packs.pack-index _ _ _ _ c.packs.invariant.2
    (take_all c.packs.pack-index c.args.packs.now c.packs-test.false) c.flush.result c.flush.ensures.err
