-- The order of package specs is total, and says Equal exactly where they are equal.
use Rattle.std.proofs.Common.{◌≡◌, ℕ, T, List, length, Option, Some, None, refl, sym, ap, subst, ◌∙◌}
use Rattle.std.specs.Prelude.{nat_eq}
use Rattle.std.specs.Ordering.{nat_cmp, flip_args, eq_by_cmp, is_eq, is_lt, is_gt, ordering_then}
use Rattle.std.specs.Option.{option_cmp, option_eq}
use Rattle.std.specs.declared.cmp.Ordering.{Ordering}
use Rattle.std.specs.declared.cmp.Ordering.TheVariants.{Less, Equal, Greater}
use Rattle.std.specs.Cmp.{IsTotalOrder, IsEquivalence, IsPartialOrder, on_total, then_total, back_total, nat_cmp_total}
use Rattle.std.specs.Cmp.{both_tied, tied_itself, unsigned_ties, eq_by_cmp_equiv, po}
use Rattle.std.specs.Cmp.Lexicographic.{slice_cmp, nat_list_cmp_total, lists_total, options_total, lists_ties}
use Rattle.std.specs.Cmp.Lexicographic.{texts_ties, unequal}
use Rattle.semver.specs.Order.{pre_cmp}
use Rattle.semver.specs.OrderLaws.{pre_total, pre-anti, order_ties}
use Rattle.semver.specs.Parse.{Held}
use Rattle.policy_parts.specs.spec.Order.{operator_place, comparator_order, comparators_order, requirement_order}
use Rattle.policy_parts.specs.spec.Order.{spec_order}
use Rattle.policy_parts.specs.spec.Same.{same_comparator, same_comparators, same_requirement, same_spec}
use Rattle.policy_parts.specs.spec.Spec.{Spec}

-- ---- it is total

pub comparator_order_total : IsTotalOrder comparator_order
comparator_order_total =
    then_total (then_total (then_total (then_total
    (on_total (λ (c : Held). operator_place c.0) nat_cmp_total)
    (on_total (λ (c : Held). c.1) nat_cmp_total))
    (on_total (λ (c : Held). c.2) (options_total nat_cmp_total)))
    (on_total (λ (c : Held). c.3) (options_total nat_cmp_total)))
    (on_total (λ (c : Held). c.4) pre_total)

pub comparators_order_total : IsTotalOrder comparators_order
comparators_order_total = then_total (on_total length nat_cmp_total) (lists_total comparator_order_total)

-- the order of options has none first, and here it comes last: both turned round
turned_order : (x y : Option (List Held))
    → flip_args (option_cmp (flip_args comparators_order)) x y ≡ requirement_order x y
turned_order None None = refl
turned_order None (Some ys) = refl
turned_order (Some xs) None = refl
turned_order (Some xs) (Some ys) = refl

pub requirement_order_total : IsTotalOrder requirement_order
requirement_order_total =
    subst IsTotalOrder (λ i x y. turned_order x y i) (back_total (options_total (back_total comparators_order_total)))

pub spec_order_total : IsTotalOrder spec_order
spec_order_total =
    then_total (on_total (λ (spec : Spec). spec.name) nat_list_cmp_total)
    (on_total (λ (spec : Spec). spec.requirement) requirement_order_total)

-- ---- it ties where the test of equality holds

number_ties : (x y : Option ℕ) → option_eq nat_eq x y ≡ eq_by_cmp (option_cmp nat_cmp) x y
number_ties None None = refl
number_ties None (Some y) = refl
number_ties (Some x) None = refl
number_ties (Some x) (Some y) = unsigned_ties x y

comparator_ties : (x y : Held) → same_comparator x y ≡ eq_by_cmp comparator_order x y
comparator_ties x y =
    both_tied _ _ _ _ (both_tied _ _ _ _ (both_tied _ _ _ _ (both_tied _ _ _ _
    (unsigned_ties (operator_place x.0) (operator_place y.0))
    (unsigned_ties x.1 y.1))
    (number_ties x.2 y.2))
    (number_ties x.3 y.3))
    (order_ties pre_cmp pre_total pre-anti x.4 y.4)

by_length : (xs ys : List Held) (order : Ordering) → nat_cmp (length xs) (length ys) ≡ order
    → same_comparators xs ys ≡ is_eq (ordering_then order (slice_cmp comparator_order xs ys))
by_length xs ys Equal is = lists_ties comparator_order comparator_ties xs ys
by_length xs ys Less is =
    unequal same_comparator xs ys (λ same.
    subst (λ r. T (is_lt r)) (sym is ∙ ap (nat_cmp (length xs)) (sym same) ∙ tied_itself nat_cmp_total (length xs)) tt)
by_length xs ys Greater is =
    unequal same_comparator xs ys (λ same.
    subst (λ r. T (is_gt r)) (sym is ∙ ap (nat_cmp (length xs)) (sym same) ∙ tied_itself nat_cmp_total (length xs)) tt)

requirement_ties : (x y : Option (List Held)) → same_requirement x y ≡ eq_by_cmp requirement_order x y
requirement_ties None None = refl
requirement_ties None (Some ys) = refl
requirement_ties (Some xs) None = refl
requirement_ties (Some xs) (Some ys) = by_length xs ys (nat_cmp (length xs) (length ys)) refl

pub spec_ties : (x y : Spec) → same_spec x y ≡ eq_by_cmp spec_order x y
spec_ties x y = both_tied _ _ _ _ (texts_ties x.name y.name) (requirement_ties x.requirement y.requirement)

-- ---- so the test is an equivalence, and the order is one up to it

pub same_spec_equiv : IsEquivalence same_spec
same_spec_equiv = subst IsEquivalence (λ i x y. sym (spec_ties x y) i) (eq_by_cmp_equiv spec_order_total)

pub spec_po : IsPartialOrder same_spec (λ x y. Some (spec_order x y))
spec_po = po spec_order_total spec_ties
