-- When two package specs are equal.
use Rattle.std.specs.Prelude.{◌≡◌, Bool, ◌==◌, ◌&&◌, nat_eq, List, Option}
use Rattle.std.specs.Cmp.Lexicographic.{pointwise}
use Rattle.std.specs.Option.{option_eq}
use Rattle.std.specs.Str.{bytes_eq}
use Rattle.semver.specs.Parse.{Held}
use Rattle.policy_parts.specs.spec.Order.{operator_place}
use Rattle.policy_parts.specs.spec.Spec.{Spec}

-- The name and the comparators are the same. The place of the name does not count.
pub record AreSame (x y : Spec) : Type 0 where
  pub name : x.name ≡ y.name
  pub requirement : x.requirement ≡ y.requirement

-- ---- the same as a test, which asks for no order

abbrev pub same_comparator : Held → Held → Bool
same_comparator x y =
    (operator_place x.0 == operator_place y.0) && (x.1 == y.1) && option_eq nat_eq x.2 y.2 && option_eq nat_eq x.3 y.3
    && bytes_eq x.4 y.4

abbrev pub same_comparators : List Held → List Held → Bool
same_comparators = pointwise same_comparator

abbrev pub same_requirement : Option (List Held) → Option (List Held) → Bool
same_requirement = option_eq same_comparators

abbrev pub same_spec : Spec → Spec → Bool
same_spec x y = bytes_eq x.name y.name && same_requirement x.requirement y.requirement
