-- The test of equality decides it.
use Rattle.std.proofs.Common.{◌≡◌, ℕ, Bool, T, ◌&&◌, ◌==◌, is_some, unwrap_or, if◌then◌else◌, List, Option, Some, None, refl, sym, ap, subst, ◌∙◌}
use Rattle.std.specs.Bool.{Decides, IsTrue}
use Rattle.std.specs.Ordering.{is_eq}
use Rattle.std.specs.declared.cmp.Ordering.{Ordering}
use Rattle.std.specs.declared.cmp.Ordering.TheVariants.{Less, Equal, Greater}
use Rattle.std.specs.Cmp.{unsigned_Decides, first_so, second_so}
use Rattle.std.specs.Cmp.Lexicographic.{pointwise_decides, bytes_decides}
use Rattle.std.specs.Option.{option_eq}
use Rattle.semver.specs.Parse.{Held}
use Rattle.semver.specs.declared.Op.{Op}
use Rattle.semver.specs.declared.Op.TheVariants as op
use Rattle.policy_parts.specs.spec.Order.{operator_place}
use Rattle.policy_parts.specs.spec.Same.{same_comparator, same_requirement, same_spec, AreSame}
use Rattle.policy_parts.specs.spec.Spec.{Spec}

-- an operator by its place
abbrev operator_at : ℕ → Op
operator_at n =
    if n == 0 then op.Exact else (if n == 1 then op.Greater else (if n == 2 then op.GreaterEq else (if n == 3 then op.Less
    else (if n == 4 then op.LessEq else (if n == 5 then op.Tilde else (if n == 6 then op.Caret else op.Wildcard))))))

placed : (o : Op) → operator_at (operator_place o) ≡ o
placed op.Exact = refl
placed op.Greater = refl
placed op.GreaterEq = refl
placed op.Less = refl
placed op.LessEq = refl
placed op.Tilde = refl
placed op.Caret = refl
placed op.Wildcard = refl

operator_decides : (x y : Op) → Decides (operator_place x == operator_place y) (x ≡ y)
operator_decides x y =
    let places = unsigned_Decides (operator_place x) (operator_place y) in
    (λ e. sym (placed x) ∙ ap operator_at (places.0 e) ∙ placed y, λ e. places.1 (ap operator_place e))

option_decides : {A : Type 0} {E : A → A → Bool} → ((x y : A) → Decides (E x y) (x ≡ y)) → (x y : Option A) → Decides (option_eq E x y) (x ≡ y)
option_decides d None None = (λ e. refl, λ e. refl)
option_decides d None (Some y) = (λ e. absurd (subst T (sym e) tt), λ e. ap is_some e)
option_decides d (Some x) None = (λ e. absurd (subst T (sym e) tt), λ e. sym (ap is_some e))
option_decides d (Some x) (Some y) = (λ e. ap Some ((d x y).0 e), λ e. (d x y).1 (ap (λ o. unwrap_or o x) e))

both : {P Q : Type 0} (s t : Bool) → Decides s P → Decides t Q → Decides (s && t) (P × Q)
both s t p q = (λ e. (p.0 (first_so s t e), q.0 (second_so s t e)), λ h i. p.1 h.0 i && q.1 h.1 i)

comparator_decides : (x y : Held) → Decides (same_comparator x y) (x ≡ y)
comparator_decides x y =
    let all = both _ _ (both _ _ (both _ _ (both _ _ (operator_decides x.0 y.0) (unsigned_Decides x.1 y.1))
    (option_decides unsigned_Decides x.2 y.2)) (option_decides unsigned_Decides x.3 y.3)) (bytes_decides x.4 y.4) in (
      λ e. let h = all.0 e in λ i. (h.0.0.0.0 i, h.0.0.0.1 i, h.0.0.1 i, h.0.1 i, h.1 i),
      λ e. all.1 ((((ap (λ c. c.0) e, ap (λ c. c.1) e), ap (λ c. c.2) e), ap (λ c. c.3) e), ap (λ c. c.4) e),
    )

requirement_decides : (x y : Option (List Held)) → Decides (same_requirement x y) (x ≡ y)
requirement_decides = option_decides (pointwise_decides comparator_decides)

pub spec_decides : (x y : Spec) → Decides (same_spec x y) (AreSame x y)
spec_decides x y =
    let all = both _ _ (bytes_decides x.name y.name) (requirement_decides x.requirement y.requirement) in
    (λ e. record { name = (all.0 e).0; requirement = (all.0 e).1 }, λ h. all.1 (h.name, h.requirement))

-- an order that says Equal
pub tied : (order : Ordering) → (IsTrue (is_eq order) → order ≡ Equal) × (order ≡ Equal → IsTrue (is_eq order))
tied Less = (λ e. absurd (subst T (sym e) tt), λ e. ap is_eq e)
tied Equal = (λ e. refl, λ e. refl)
tied Greater = (λ e. absurd (subst T (sym e) tt), λ e. ap is_eq e)
