use Rattle.policy_core.specs.validate.Order.{by_printed}
use Rattle.policy_core.proofs.validate.SortLemmas.{puts_in_order}
use Rattle.policy_core.proofs.validate.order.sort_licensees.Goals as goal

pub returns : goal.returns
returns c =
    let sorts = c.in_ok-sort.ensures in
    puts_in_order by_printed c.args.licensees c.into_vec-items.result.items c.sort.new.self.items c.from.result c.into_vec-items.ensures c.from.ensures
    sorts.permutation sorts.sorted sorts.stable
