-- The order of package specs.
use Rattle.std.specs.Prelude.{ℕ, List, length, Option, Some, None}
use Rattle.std.specs.Ordering.{on, then_cmp, nat_cmp}
use Rattle.std.specs.Option.{option_cmp}
use Rattle.std.specs.declared.cmp.Ordering.{Ordering}
use Rattle.std.specs.declared.cmp.Ordering.TheVariants.{Less, Equal, Greater}
use Rattle.std.specs.Cmp.Lexicographic.{slice_cmp}
use Rattle.semver.specs.Order.{pre_cmp}
use Rattle.semver.specs.Parse.{Held}
use Rattle.semver.specs.declared.Op.{Op}
use Rattle.semver.specs.declared.Op.TheVariants as op
use Rattle.policy_parts.specs.spec.Spec.{Spec}

-- where an operator is among the others
abbrev pub operator_place : Op → ℕ
operator_place op.Exact = 0
operator_place op.Greater = 1
operator_place op.GreaterEq = 2
operator_place op.Less = 3
operator_place op.LessEq = 4
operator_place op.Tilde = 5
operator_place op.Caret = 6
operator_place op.Wildcard = 7

-- by operator, major, minor, patch and pre-release; a number that is missing comes first
abbrev pub comparator_order : Held → Held → Ordering
comparator_order =
    then_cmp (then_cmp (then_cmp (then_cmp
    (on (λ (c : Held). operator_place c.0) nat_cmp)
    (on (λ (c : Held). c.1) nat_cmp))
    (on (λ (c : Held). c.2) (option_cmp nat_cmp)))
    (on (λ (c : Held). c.3) (option_cmp nat_cmp)))
    (on (λ (c : Held). c.4) pre_cmp)

-- fewer comparators first, then comparator by comparator
abbrev pub comparators_order : List Held → List Held → Ordering
comparators_order = then_cmp (on length nat_cmp) (slice_cmp comparator_order)

-- with a requirement before without
abbrev pub requirement_order : Option (List Held) → Option (List Held) → Ordering
requirement_order (Some xs) (Some ys) = comparators_order xs ys
requirement_order (Some xs) None = Less
requirement_order None (Some ys) = Greater
requirement_order None None = Equal

-- by the bytes of the names, then by the requirements; places do not count
abbrev pub spec_order : Spec → Spec → Ordering
spec_order =
    then_cmp (on (λ (spec : Spec). spec.name) (slice_cmp nat_cmp))
    (on (λ (spec : Spec). spec.requirement) requirement_order)
