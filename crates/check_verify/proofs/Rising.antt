-- Choices and blocks of a tree whose places are numbered in text order: there are some places, and they rise.
use Rattle.std.proofs.Common.{◌≡◌, ◌∙◌, refl, sym, ap, inl, inr, ℕ, suc, ◌<◌, ◌≤◌, Bool, true, false, true≢false, cond, lt-ltb, List, [], ◌∷◌, ◌++◌, map, length, Option, Some, arith}
use Rattle.std.specs.List.{list_all}
use Rattle.std.specs.Prelude.{nat_lt}
use Rattle.spdx_core.specs.Grammar.{ExpressionTree, leaf, both, either}
use Rattle.spdx_core.specs.Reading.{numbered_from}
use Rattle.spdx_core.specs.declared.certificates.verdict.Hit.{Hit}
use Rattle.spdx_core.specs.declared.certificates.verdict.Verdict.TheVariants.{Accepted, Rejected}
use Rattle.spdx_core.specs.certificates.Certificates.{ShowsAccepted, ShowsRejected, has_hit, hit_at}
use Rattle.spdx_core.specs.certificates.Choices.{blocks_of, choices_of, is_accepted}
use Rattle.check_record.specs.Items.{rise_from, some_rise}
use Rattle.check_verify.specs.Recorded.{IsRecordable}
use Rattle.check_verify.proofs.Choices.{Has, and_parts, both_parts, find_at, has_cases, numbered_leaf, rises, sides_at, within}

-- ---- lists

rise_append : (mid x y : ℕ) (xs ys : List ℕ) → rise_from nat_lt x xs ≡ true → ((p : ℕ) → Has (x ∷ xs) p → p < mid) → mid ≤ y → rise_from nat_lt y ys ≡ true
    → rise_from nat_lt x (xs ++ y ∷ ys) ≡ true
rise_append mid x y [] ys front below above back =
    let less : x < y = omega (arith, below x (inl refl)) in
    rw (lt-ltb x y less) back
rise_append mid x y (z ∷ xs) ys front below above back =
    let parts = and_parts (nat_lt x z) (rise_from nat_lt z xs) front in
    rw parts.0 (rise_append mid z y xs ys parts.1 (λ p at. below p (inr at)) above back)

some_append : (mid : ℕ) (xs ys : List ℕ) → some_rise nat_lt xs ≡ true → some_rise nat_lt ys ≡ true → ((p : ℕ) → Has xs p → p < mid) → ((p : ℕ) → Has ys p → mid ≤ p)
    → some_rise nat_lt (xs ++ ys) ≡ true
some_append mid [] ys front back below above = absurd (true≢false (sym front))
some_append mid (x ∷ xs) [] front back below above = absurd (true≢false (sym back))
some_append mid (x ∷ xs) (y ∷ ys) front back below above = rise_append mid x y xs ys front below (above y (inl refl)) back

-- ---- choices

pub choice_rises : (n m : ℕ) (tree : ExpressionTree) → numbered_from n tree ≡ Some m → (choice : List ℕ) → Has (choices_of tree) choice → some_rise nat_lt choice ≡ true
choice_rises n m (leaf p) h choice (inl same) = ap (some_rise nat_lt) same
choice_rises n m (leaf p) h choice (inr none) = absurd none
choice_rises n m (both left right) h choice at =
    let s = sides_at n m left right (numbered_from n left) refl h in
    let parts = both_parts left right choice at in
    ap (some_rise nat_lt) parts.4
    ∙ some_append s.mid parts.0 parts.1 (choice_rises n s.mid left s.before parts.0 parts.2) (choice_rises s.mid m right s.behind parts.1 parts.3)
    (λ p held. (within n s.mid left s.before parts.0 p parts.2 held).1) (λ p held. (within s.mid m right s.behind parts.1 p parts.3 held).0)
choice_rises n m (either left right) h choice at =
    let s = sides_at n m left right (numbered_from n left) refl h in
    elim (has_cases (choices_of left) (choices_of right) choice at) [
      | inl here ↦ choice_rises n s.mid left s.before choice here
      | inr there ↦ choice_rises s.mid m right s.behind choice there
    ]

-- ---- blocks

-- those of one side
of_side : (b : Bool) (xs ys : List ℕ) (Is : List ℕ → Type 0) → Is xs → Is ys → Is (cond b xs ys)
of_side true xs ys Is one other = one
of_side false xs ys Is one other = other

-- places of a number of a range
abbrev InRange : ℕ → ℕ → List ℕ → Type 0
InRange n m xs = (p : ℕ) → Has xs p → (n ≤ p) × (p < m)

pub blocks_within : (test : ℕ → Bool) (n m : ℕ) (tree : ExpressionTree) → numbered_from n tree ≡ Some m → InRange n m (blocks_of test tree)
blocks_within test n m (leaf q) h p (inl same) = let at = numbered_leaf n m q _ refl h in (omega (arith, at.0, same), omega (arith, at.0, at.1, same))
blocks_within test n m (leaf q) h p (inr none) = absurd none
blocks_within test n m (both left right) h p at =
    let s = sides_at n m left right (numbered_from n left) refl h in
    let l = rises n s.mid left s.before in
    let r = rises s.mid m right s.behind in
    of_side (is_accepted test left) (blocks_of test right) (blocks_of test left) (InRange n m)
    (λ q held. let w = blocks_within test s.mid m right s.behind q held in (omega (arith, w.0, l), w.1))
    (λ q held. let w = blocks_within test n s.mid left s.before q held in (w.0, omega (arith, w.1, r))) p at
blocks_within test n m (either left right) h p at =
    let s = sides_at n m left right (numbered_from n left) refl h in
    let l = rises n s.mid left s.before in
    let r = rises s.mid m right s.behind in
    elim (has_cases (blocks_of test left) (blocks_of test right) p at) [
      | inl here ↦ let w = blocks_within test n s.mid left s.before p here in (w.0, omega (arith, w.1, r))
      | inr there ↦ let w = blocks_within test s.mid m right s.behind p there in (omega (arith, w.0, l), w.1)
    ]

pub blocks_rise : (test : ℕ → Bool) (n m : ℕ) (tree : ExpressionTree) → numbered_from n tree ≡ Some m → some_rise nat_lt (blocks_of test tree) ≡ true
blocks_rise test n m (leaf p) h = refl
blocks_rise test n m (both left right) h =
    let s = sides_at n m left right (numbered_from n left) refl h in
    of_side (is_accepted test left) (blocks_of test right) (blocks_of test left) (λ xs. some_rise nat_lt xs ≡ true)
    (blocks_rise test s.mid m right s.behind) (blocks_rise test n s.mid left s.before)
blocks_rise test n m (either left right) h =
    let s = sides_at n m left right (numbered_from n left) refl h in
    some_append s.mid (blocks_of test left) (blocks_of test right) (blocks_rise test n s.mid left s.before) (blocks_rise test s.mid m right s.behind)
    (λ p at. (blocks_within test n s.mid left s.before p at).1) (λ p at. (blocks_within test s.mid m right s.behind p at).0)

-- ---- certificates

as_long : {A B C : Type 0} (f : A → C) (g : B → C) (xs : List A) (ys : List B) → map f xs ≡ map g ys → length xs ≡ length ys
as_long f g [] [] same = refl
as_long f g [] (y ∷ ys) same = absurd cc
as_long f g (x ∷ xs) [] same = absurd cc
as_long f g (x ∷ xs) (y ∷ ys) same = ap suc (as_long f g xs ys cc)

pub accepted_recordable : (n : ℕ) (tree : ExpressionTree) → numbered_from 0 tree ≡ Some n → (kept : List (Option Hit)) (choice : List ℕ) (hits : List Hit) → ShowsAccepted kept tree choice hits
    → IsRecordable (Accepted choice hits)
accepted_recordable n tree numbered kept choice hits shown =
    (choice_rises 0 n tree numbered choice (find_at (list_all (has_hit kept)) (choices_of tree) choice shown.first).0, as_long Some (hit_at kept) hits choice shown.place_by_place)

pub rejected_recordable : (n : ℕ) (tree : ExpressionTree) → numbered_from 0 tree ≡ Some n → (kept : List (Option Hit)) (least blocks : List ℕ) → ShowsRejected kept tree least blocks
    → IsRecordable (Rejected least blocks)
rejected_recordable n tree numbered kept least blocks shown = ap (some_rise nat_lt) shown.blocks_are ∙ blocks_rise (has_hit kept) 0 n tree numbered
