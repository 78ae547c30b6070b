use Rattle.std.proofs.lemmas.Result.{err_from_is_err_and}
use Rattle.run_overrides.proofs.PutLemmas.{all_once, all_set, none_set, read_set, read_twice}
use Rattle.run_overrides.proofs.overrides.overrides_by.Goals as goal

pub items-init : goal.items-init
items-init c = none_set c.args.items.now _ c.new.ensures c.new-2.ensures

pub items-preserved : goal.items-preserved
items-preserved c =
    read_set c.args.items.now c.items.item-index _ c.items.overrides c.items-test.true c.items.invariant c.put.new.overrides c.in_ok-put.ensures.first c.in_ok-put.ensures.ok

pub returns-in_err-put-clause-err : goal.returns-in_err-put-clause-err
returns-in_err-put-clause-err c =
    let p = err_from_is_err_and c.from_residual.result c.from_residual.ensures.1 in
    rw (p.1, p.2)
    (read_twice c.args.items.now c.items.item-index _ c.items.overrides c.items-test.true c.items.invariant c.in_err-put.field-0.0 c.in_err-put.ensures.err)

pub returns-clause-ok : goal.returns-clause-ok
returns-clause-ok c = all_set c.args.items.now c.items.item-index c.items.overrides c.items-test.false c.items.invariant

pub returns-clause-once : goal.returns-clause-once
returns-clause-once c = all_once c.args.items.now c.items.item-index c.items.overrides c.items-test.false c.items.invariant
