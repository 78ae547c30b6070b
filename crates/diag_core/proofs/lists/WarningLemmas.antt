-- Warnings of neighbours, one pair after another.
use Rattle.std.proofs.Common.{◌≡◌, ℕ, suc, ◌-◌, ◌<◌, ◌≤◌, Bool, List, [], ◌∷◌, ◌++◌, length, length-drop, get_or, drop, refl, sym, ap, arith, ◌∙◌}
use Rattle.std.proofs.Math.Seq.{drop-cons}
use Rattle.deny_text.specs.declared.span.Spanned.{Spanned}
use Rattle.diag_core.specs.lists.Dedup.{warning_where, warnings_of}

-- the pair at a place and the one before it, and then the pairs behind
pub warnings_step : {T : Type 0} (eq : T → T → Bool) (file : ℕ) (xs : List (Spanned T)) (i : ℕ) (x y : Spanned T) → 0 < i → i < length xs
    → x ≡ get_or xs (i - 1) x → y ≡ get_or xs i y
    → warnings_of eq file (drop (i - 1) xs) ≡ warning_where eq file x y ++ warnings_of eq file (drop i xs)
warnings_step eq file xs i x y positive inside one other =
    let next : suc (i - 1) ≡ i = omega arith in
    let behind : drop i xs ≡ y ∷ drop (suc i) xs = drop-cons xs i y inside ∙ ap (λ z. z ∷ drop (suc i) xs) (sym other) in
    ap (warnings_of eq file) (drop-cons xs (i - 1) x (omega arith) ∙ ap (λ z. z ∷ drop (suc (i - 1)) xs) (sym one) ∙ ap (λ j. x ∷ drop j xs) next ∙ ap (λ zs. x ∷ zs) behind)
    ∙ ap (λ zs. warning_where eq file x y ++ warnings_of eq file zs) (sym behind)

short : {T : Type 0} (eq : T → T → Bool) (file : ℕ) (xs : List (Spanned T)) → length xs ≤ 1 → warnings_of eq file xs ≡ []
short eq file [] h = refl
short eq file (x ∷ []) h = refl
short eq file (x ∷ y ∷ ys) h = absurd (omega arith)

-- no pair is left behind the last item
pub warnings_end : {T : Type 0} (eq : T → T → Bool) (file : ℕ) (xs : List (Spanned T)) (i : ℕ) → length xs ≤ i
    → warnings_of eq file (drop (i - 1) xs) ≡ []
warnings_end {T} eq file xs i h = short eq file (drop (i - 1) xs) (omega (arith, length-drop (i - 1) xs))
