-- A list from its end.
use Rattle.std.proofs.Common.{◌≡◌, ◌∙◌, refl, sym, ap, ℕ, List, [], ◌∷◌, ◌++◌, Option, Some, None, length, reverse, ◌<◌, zero, suc, append-nil, arith, ◌↔◌, IsSome}
use Rattle.std.specs.Prelude.{option_to_list}
use Rattle.std.proofs.lemmas.List.{reverse-append}
use Rattle.std.proofs.lemmas.Bool.{false≢true}
use Rattle.spdx_core.specs.Stack.{Pops}

pub pushed : {X : Type 0} (old new : List X) (x : X) → new ≡ old ++ x ∷ [] → reverse new ≡ x ∷ reverse old
pushed old new x is = ap reverse is ∙ reverse-append old (x ∷ [])

none_at : (n : ℕ) → (0 < n → ⊥) → n ≡ 0
none_at zero h = refl
none_at (suc n) h = absurd (h (omega arith))

nil_of : {X : Type 0} (items : List X) → length items ≡ 0 → items ≡ []
nil_of [] h = refl
nil_of (x ∷ items) h = absurd (omega arith)

pub popped : {X : Type 0} (old new : List X) (len : ℕ) (found : Option X) → len ≡ length old → (IsSome found ↔ (0 < len)) → old ≡ new ++ option_to_list found → Pops (reverse old) found (reverse new)
popped old new len None is some made =
    let empty : len ≡ 0 = none_at len (λ more. false≢true (some.1 more)) in
    let same : old ≡ [] = nil_of old (sym is ∙ empty) in
    let left : new ≡ [] = sym (append-nil new) ∙ sym made ∙ same in
    (ap reverse same, ap reverse left)
popped old new len (Some x) is some made = ap reverse made ∙ reverse-append new (x ∷ [])
