-- What holds of all lists and policies that are put in order.
use Rattle.std.specs.Prelude.{◌≡◌, List}
use Rattle.std.specs.declared.cmp.Ordering.{Ordering}
use Rattle.policy_core.specs.declared.valid.policy.ValidConfig.{ValidConfig}
use Rattle.policy_core.specs.validate.Order.{PutsInOrder, PutsPolicyInOrder}

-- there is one way to put a list in order
abbrev pub OneOrder : {T : Type 0} → (T → T → Ordering) → Type 0
OneOrder {T} cmp =
    (written one other : List T) → PutsInOrder cmp written one → PutsInOrder cmp written other → one ≡ other

-- and one way to put a policy in order
abbrev pub OnePolicy : Type 0
OnePolicy =
    (written one other : ValidConfig) → PutsPolicyInOrder written one → PutsPolicyInOrder written other → one ≡ other
