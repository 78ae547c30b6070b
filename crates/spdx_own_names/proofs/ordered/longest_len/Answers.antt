use Rattle.std.proofs.Common.{ℕ, ◌≤◌, List, length, subst}
use Rattle.spdx_own_names.proofs.OrderLemmas.{longest_all, longest_more}
use Rattle.spdx_own_names.proofs.ordered.longest_len.Goals as goal

pub listed-preserved : goal.listed-preserved
listed-preserved c =
    longest_more c.args.listed.now c.listed.meaning-index c.meaning-item.result c.listed.longest c.larger-longest.result c.listed-test.true c.meaning-item.is c.listed.invariant c.larger-longest.ensures.one
    (subst (λ (text : List ℕ). length text ≤ c.larger-longest.result) c.as_str.ensures c.larger-longest.ensures.other)

pub returns : goal.returns
returns c = longest_all c.args.listed.now c.listed.meaning-index c.listed.longest c.listed-test.false c.listed.invariant
