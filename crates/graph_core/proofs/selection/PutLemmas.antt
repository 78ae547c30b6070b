-- What a place that is put changes: its mark, and that it waits.
use Rattle.std.proofs.Common.{◌≡◌, ℕ, zero, suc, ◌+◌, ◌<◌, ◌⊎◌, ◌&&◌, not, Bool, true, false, T, List, [], ◌∷◌, ◌++◌, length, slice_set, slice_index_or, Contains, All, refl, sym, ◌∙◌, ap, subst, inl, inr, arith}
use Rattle.std.proofs.lemmas.Bool.{cases_eq}
use Rattle.std.proofs.lemmas.List.{length-set, length-append, get_or-set_same, get_or-set_other}
use Rattle.std.proofs.lemmas.List.Elements.{Contains-append_left, Contains-push, Contains-push_cases, All-push}
use Rattle.graph_core.specs.selection.Places.{FrontierView, is_marked, frontier_with, put_if}

pub true-false : true ≡ false → ⊥
true-false e = subst T e tt

pub both-left : (a b : Bool) → (a && b) ≡ true → a ≡ true
both-left true b e = refl
both-left false b e = absurd (true-false (sym e))

pub both-right : (a b : Bool) → (a && b) ≡ true → b ≡ true
both-right true b e = e
both-right false b e = absurd (true-false (sym e))

pub not-true : (a : Bool) → not a ≡ true → a ≡ false
not-true true e = absurd (true-false (sym e))
not-true false e = refl

not-false : (a : Bool) → not a ≡ false → a ≡ true
not-false true e = refl
not-false false e = absurd (true-false e)

-- how many places are not marked
abbrev pub unmarked : List Bool → ℕ
unmarked [] = 0
unmarked (true ∷ marks) = unmarked marks
unmarked (false ∷ marks) = suc (unmarked marks)

unmarked-set : (marks : List Bool) (place : ℕ) → place < length marks → is_marked marks place ≡ false
    → suc (unmarked (slice_set marks place true)) ≡ unmarked marks
unmarked-set [] place below free = absurd (omega arith)
unmarked-set (true ∷ marks) zero below free = absurd (true-false free)
unmarked-set (false ∷ marks) zero below free = refl
unmarked-set (true ∷ marks) (suc place) below free = unmarked-set marks place (omega arith) free
unmarked-set (false ∷ marks) (suc place) below free = ap suc (unmarked-set marks place (omega arith) free)

-- what is left to do: places that are not marked, and those that wait
abbrev pub left_to_do : FrontierView → ℕ
left_to_do seen = unmarked seen.marks + length seen.waiting

module _ (place : ℕ) (wanted : Bool) (seen : FrontierView) where
  counted-if : (b : Bool) → length (put_if b place seen).marks ≡ length seen.marks
  counted-if true = length-set seen.marks place true
  counted-if false = refl

  pub put-counted : length (frontier_with place wanted seen).marks ≡ length seen.marks
  put-counted = counted-if (wanted && not (is_marked seen.marks place))

  left-if : (b : Bool) → place < length seen.marks → (b ≡ true → is_marked seen.marks place ≡ false)
      → left_to_do (put_if b place seen) ≡ left_to_do seen
  left-if true below free =
      let one = unmarked-set seen.marks place below (free refl) in
      let more = length-append seen.waiting (place ∷ []) in omega arith
  left-if false below free = refl

  -- what is left to do stays as much
  pub put-left : place < length seen.marks → left_to_do (frontier_with place wanted seen) ≡ left_to_do seen
  put-left below =
      left-if (wanted && not (is_marked seen.marks place)) below
      (λ is. not-true (is_marked seen.marks place) (both-right wanted (not (is_marked seen.marks place)) is))

  keeps-set : (q : ℕ) → place < length seen.marks → is_marked seen.marks q ≡ true → is_marked (slice_set seen.marks place true) q ≡ true
  keeps-set q below marked =
      elim (cases_eq q place) [
        | inl same ↦ ap (λ i. slice_index_or (slice_set seen.marks place true) i false) same ∙ get_or-set_same seen.marks place true false below
        | inr other ↦ get_or-set_other seen.marks place q true false other ∙ marked
      ]

  keeps-if : (b : Bool) (q : ℕ) → place < length seen.marks → is_marked seen.marks q ≡ true → is_marked (put_if b place seen).marks q ≡ true
  keeps-if true q below marked = keeps-set q below marked
  keeps-if false q below marked = marked

  pub put-keeps : (q : ℕ) → place < length seen.marks → is_marked seen.marks q ≡ true → is_marked (frontier_with place wanted seen).marks q ≡ true
  put-keeps q below marked = keeps-if (wanted && not (is_marked seen.marks place)) q below marked

  waits-if : (b : Bool) (q : ℕ) → Contains seen.waiting q → Contains (put_if b place seen).waiting q
  waits-if true q waits = Contains-append_left seen.waiting (place ∷ []) q waits
  waits-if false q waits = waits

  pub put-waits : (q : ℕ) → Contains seen.waiting q → Contains (frontier_with place wanted seen).waiting q
  put-waits q waits = waits-if (wanted && not (is_marked seen.marks place)) q waits

  -- a place that is marked then was marked before, or it is this one, was wanted and waits
  new-set : (q : ℕ) → is_marked (slice_set seen.marks place true) q ≡ true
      → (is_marked seen.marks q ≡ true) ⊎ ((q ≡ place) × Contains (seen.waiting ++ place ∷ []) q)
  new-set q marked =
      elim (cases_eq q place) [
        | inl same ↦ inr (same, subst (Contains (seen.waiting ++ place ∷ [])) (sym same) (Contains-push seen.waiting place))
        | inr other ↦ inl (sym (get_or-set_other seen.marks place q true false other) ∙ marked)
      ]

  new-if : (b : Bool) (q : ℕ) → (b ≡ true → wanted ≡ true) → is_marked (put_if b place seen).marks q ≡ true
      → (is_marked seen.marks q ≡ true) ⊎ ((q ≡ place) × (wanted ≡ true) × Contains (put_if b place seen).waiting q)
  new-if true q want marked = elim (new-set q marked) [ inl before ↦ inl before | inr found ↦ inr (found.0, want refl, found.1) ]
  new-if false q want marked = inl marked

  pub put-new : (q : ℕ) → is_marked (frontier_with place wanted seen).marks q ≡ true
      → (is_marked seen.marks q ≡ true) ⊎ ((q ≡ place) × (wanted ≡ true) × Contains (frontier_with place wanted seen).waiting q)
  put-new q marked =
      new-if (wanted && not (is_marked seen.marks place)) q (both-left wanted (not (is_marked seen.marks place))) marked

  found-if : (b : Bool) → place < length seen.marks → (b ≡ false → is_marked seen.marks place ≡ true)
      → is_marked (put_if b place seen).marks place ≡ true
  found-if true below before = get_or-set_same seen.marks place true false below
  found-if false below before = before refl

  wanted-before : (w : Bool) → w ≡ true → (w && not (is_marked seen.marks place)) ≡ false → is_marked seen.marks place ≡ true
  wanted-before true e is = not-false (is_marked seen.marks place) is
  wanted-before false e is = absurd (true-false (sym e))

  pub put-found : place < length seen.marks → wanted ≡ true → is_marked (frontier_with place wanted seen).marks place ≡ true
  put-found below want = found-if (wanted && not (is_marked seen.marks place)) below (wanted-before wanted want)

  within-if : (b : Bool) (n : ℕ) → place < n → All (λ q. q < n) seen.waiting → All (λ q. q < n) (put_if b place seen).waiting
  within-if true n below within = All-push (λ q. q < n) seen.waiting place within below
  within-if false n below within = within

  pub put-within : (n : ℕ) → place < n → All (λ q. q < n) seen.waiting → All (λ q. q < n) (frontier_with place wanted seen).waiting
  put-within n below within = within-if (wanted && not (is_marked seen.marks place)) n below within

  -- what waits then waited before, or it is this place, and is marked
  waiting-if : (b : Bool) (q : ℕ) → place < length seen.marks → Contains (put_if b place seen).waiting q
      → Contains seen.waiting q ⊎ (is_marked (put_if b place seen).marks q ≡ true)
  waiting-if true q below waits =
      elim (Contains-push_cases seen.waiting place q waits) [
        | inl before ↦ inl before
        | inr same ↦ inr (subst (λ i. is_marked (slice_set seen.marks place true) i ≡ true) same (get_or-set_same seen.marks place true false below))
      ]
  waiting-if false q below waits = inl waits

  pub put-waiting : (q : ℕ) → place < length seen.marks → Contains (frontier_with place wanted seen).waiting q
      → Contains seen.waiting q ⊎ (is_marked (frontier_with place wanted seen).marks q ≡ true)
  put-waiting q below waits = waiting-if (wanted && not (is_marked seen.marks place)) q below waits
