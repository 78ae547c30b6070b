use Rattle.std.proofs.Common.{◌≤◌, List, length, map, subst}
use Rattle.std.specs.List.Sorted.{IsPermutation}
use Rattle.std.specs.Prelude.{All}
use Rattle.spdx_own_names.specs.IndexView.{meanings_listed}
use Rattle.spdx_own_names.specs.Ordered.{lower_pair}
use Rattle.spdx_own_names.specs.declared.meanings.Meaning.{Meaning}
use Rattle.spdx_own_names.proofs.OrderLemmas.{in_order}
use Rattle.spdx_own_names.proofs.ordered.OrderedMeanings.new.Goals as goal

pub invariant_of-result : goal.invariant_of-result
invariant_of-result c =
    let ordered = c.in_ok-ordered.ordered.items in
    let longest = c.longest_len-longest.result in
    in_order c.args.listed ordered longest
    (subst (λ (listed : List Meaning). IsPermutation (map lower_pair (meanings_listed listed)) (meanings_listed ordered)) c.items.ensures c.in_ok-ordered.ensures.same) c.in_ok-ordered.ensures.sorted
    (subst (λ (listed : List Meaning). All (λ (meaning : Meaning). length meaning.text ≤ longest) listed) c.items-2.ensures c.longest_len-longest.ensures)
