use Rattle.std.proofs.Common.{sym, arith}
use Rattle.std.proofs.lemmas.List.{drop_all}
use Rattle.toml_subset.proofs.Counts.{count_past}
use Rattle.toml_subset.proofs.number.count.Goals as goal

pub returns-in_err-total : goal.returns-in_err-total
returns-in_err-total c =
    let past = count_past c.args.base c.bytes.total c.args.run.now c.bytes.place c.requires c.bytes-test.true c.if-run-place-ne95.true c.bytes.invariant.2
    (rw c.digit_value.ensures at c.in_err-total.ensures) in
    rw c.from_residual.ensures past

pub returns : goal.returns
returns c =
    let none = drop_all c.bytes.place c.args.run.now (omega arith) in
    let all = rw none at c.bytes.invariant.2 in
    (omega arith, sym all)
