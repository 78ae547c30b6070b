-- What a sort says puts a list in order.
use Rattle.std.proofs.Common.{◌≡◌, sym, subst, List}
use Rattle.std.specs.List.Sorted.{IsPermutation, IsSorted, IsStable}
use Rattle.std.specs.declared.cmp.Ordering.{Ordering}
use Rattle.policy_core.specs.validate.Order.{PutsInOrder}

pub puts_in_order : {T : Type 0} (cmp : T → T → Ordering) (written before after sorted : List T) → before ≡ written → sorted ≡ after
    → IsPermutation before after → IsSorted cmp after → IsStable cmp before after → PutsInOrder cmp written sorted
puts_in_order {T} cmp written before after sorted is_written is_sorted same rises stable =
    subst (λ (xs : List T). PutsInOrder cmp xs sorted) is_written
    (subst (λ (ys : List T). PutsInOrder cmp before ys) (sym is_sorted) (record { same = same; rises = rises; stable = stable }))
