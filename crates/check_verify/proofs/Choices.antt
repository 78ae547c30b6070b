-- Which lists are choices, by the first choice among them.
use Rattle.std.proofs.Common.{◌≡◌, ◌⊎◌, ◌∙◌, refl, sym, ap, ap₂, subst, inl, inr, ℕ, ◌+◌, ◌<◌, ◌≤◌, Bool, true, false, true≢false, cond, not, ◌&&◌, ◌||◌, eqb, eqb-true, eq-eqb, bytes_eq, List, [], ◌∷◌, ◌++◌, map, flat_map, Option, Some, None, option_and_then, find, Decides, arith}
use Rattle.std.specs.List.{list_all, list_any}
use Rattle.std.proofs.lemmas.Slice.Eq.{bytes_eq-Decides}
use Rattle.spdx_core.specs.Grammar.{ExpressionTree, leaf, both, either}
use Rattle.spdx_core.specs.Reading.{numbered_from}
use Rattle.spdx_core.specs.certificates.Choices.{choices_of, is_accepted}
use Rattle.check_verify.specs.Terms.{is_among, is_choice, meet_each}

-- ---- lists

-- a list holds an item
abbrev pub Has : {A : Type 0} → List A → A → Type 0
Has [] x = ⊥
Has (y ∷ ys) x = (x ≡ y) ⊎ Has ys x

has_left : {A : Type 0} (xs ys : List A) (x : A) → Has xs x → Has (xs ++ ys) x
has_left [] ys x at = absurd at
has_left (y ∷ xs) ys x (inl same) = inl same
has_left (y ∷ xs) ys x (inr at) = inr (has_left xs ys x at)

has_right : {A : Type 0} (xs ys : List A) (x : A) → Has ys x → Has (xs ++ ys) x
has_right [] ys x at = at
has_right (y ∷ xs) ys x at = inr (has_right xs ys x at)

pub has_cases : {A : Type 0} (xs ys : List A) (x : A) → Has (xs ++ ys) x → Has xs x ⊎ Has ys x
has_cases [] ys x at = inr at
has_cases (y ∷ xs) ys x (inl same) = inl (inl same)
has_cases (y ∷ xs) ys x (inr at) = elim (has_cases xs ys x at) [ inl here ↦ inl (inr here) | inr there ↦ inr there ]

-- where an item of a mapped list is from
has_map : {A B : Type 0} (f : A → B) (xs : List A) (y : B) → Has (map f xs) y → (x : A) × Has xs x × (y ≡ f x)
has_map f [] y at = absurd at
has_map f (x ∷ xs) y (inl same) = (x, inl refl, same)
has_map f (x ∷ xs) y (inr at) = let from = has_map f xs y at in (from.0, inr from.1, from.2)

has_flat : {A B : Type 0} (f : A → List B) (xs : List A) (y : B) → Has (flat_map f xs) y → (x : A) × Has xs x × Has (f x) y
has_flat f [] y at = absurd at
has_flat f (x ∷ xs) y at =
    elim (has_cases (f x) (flat_map f xs) y at) [
      | inl here ↦ (x, inl refl, here)
      | inr there ↦ let from = has_flat f xs y there in (from.0, inr from.1, from.2)
    ]

or_cases : (a b : Bool) → (a || b) ≡ true → (a ≡ true) ⊎ (b ≡ true)
or_cases true b e = inl refl
or_cases false b e = inr e

or_right : (a b : Bool) → b ≡ true → (a || b) ≡ true
or_right true b e = refl
or_right false b e = e

pub and_parts : (a b : Bool) → (a && b) ≡ true → (a ≡ true) × (b ≡ true)
and_parts true b e = (refl, e)
and_parts false b e = absurd (true≢false (sym e))

pub any_has : {A : Type 0} (p : A → Bool) (xs : List A) → list_any p xs ≡ true → (x : A) × Has xs x × (p x ≡ true)
any_has p [] e = absurd (true≢false (sym e))
any_has p (x ∷ xs) e =
    elim (or_cases (p x) (list_any p xs) e) [
      | inl here ↦ (x, inl refl, here)
      | inr there ↦ let from = any_has p xs there in (from.0, inr from.1, from.2)
    ]

pub any_from : {A : Type 0} (p : A → Bool) (xs : List A) (x : A) → Has xs x → p x ≡ true → list_any p xs ≡ true
any_from p [] x at e = absurd at
any_from p (y ∷ xs) x (inl same) e = ap (λ (b : Bool). b || list_any p xs) (ap p (sym same) ∙ e)
any_from p (y ∷ xs) x (inr at) e = or_right (p y) (list_any p xs) (any_from p xs x at e)

pub all_at : {A : Type 0} (p : A → Bool) (xs : List A) (x : A) → list_all p xs ≡ true → Has xs x → p x ≡ true
all_at p [] x e at = absurd at
all_at p (y ∷ xs) x e (inl same) = ap p same ∙ (and_parts (p y) (list_all p xs) e).0
all_at p (y ∷ xs) x e (inr at) = all_at p xs x (and_parts (p y) (list_all p xs) e).1 at

pub all_from : {A : Type 0} (p : A → Bool) (xs : List A) → ((x : A) → Has xs x → p x ≡ true) → list_all p xs ≡ true
all_from p [] each = refl
all_from p (x ∷ xs) each = rw (each x (inl refl)) (all_from p xs (λ y at. each y (inr at)))

some_is : {A : Type 0} (x y : A) → Some x ≡ Some y → x ≡ y
some_is x y e = cc

-- which side a test took
first_cases : {A : Type 0} (b : Bool) (x z : A) (rest : Option A) → cond b (Some x) rest ≡ Some z → ((b ≡ true) × (x ≡ z)) ⊎ ((b ≡ false) × (rest ≡ Some z))
first_cases true x z rest e = inl (refl, some_is x z e)
first_cases false x z rest e = inr (refl, e)

-- the first item that passes is in the list, and passes
pub find_at : {A : Type 0} (p : A → Bool) (xs : List A) (x : A) → find p xs ≡ Some x → Has xs x × (p x ≡ true)
find_at p [] x e = absurd cc
find_at p (y ∷ xs) x e =
    elim (first_cases (p y) y x (find p xs) e) [
      | inl here ↦ (inl (sym here.1), subst (λ z. p z ≡ true) here.1 here.0)
      | inr more ↦ let from = find_at p xs x more.1 in (inr from.0, from.1)
    ]

pub among_has : (places : List ℕ) (place : ℕ) → is_among places place ≡ true → Has places place
among_has places place e =
    let from = any_has (λ other. eqb other place) places e in
    subst (λ p. Has places p) (eqb-true from.0 place from.2) from.1

pub has_among : (places : List ℕ) (place : ℕ) → Has places place → is_among places place ≡ true
has_among places place at = any_from (λ other. eqb other place) places place at (eq-eqb place place refl)

-- ---- the places of choices

-- the sides of a tree whose places are numbered
pub record Sides (n m : ℕ) (left right : ExpressionTree) : Type 0 where
  pub mid : ℕ
  pub before : numbered_from n left ≡ Some mid
  pub behind : numbered_from mid right ≡ Some m

pub sides_at : (n m : ℕ) (left right : ExpressionTree) (found : Option ℕ) → numbered_from n left ≡ found → option_and_then (λ k. numbered_from k right) found ≡ Some m → Sides n m left right
sides_at n m left right (Some mid) is h = record { mid = mid; before = is; behind = h }
sides_at n m left right None is h = absurd (cc h)

pub numbered_leaf : (n m place : ℕ) (b : Bool) → eqb place n ≡ b → cond b (Some (n + 1)) None ≡ Some m → (place ≡ n) × (m ≡ n + 1)
numbered_leaf n m place true is h = (eqb-true place n is, cc h)
numbered_leaf n m place false is h = absurd (cc h)

-- the numbers rise
pub rises : (n m : ℕ) (tree : ExpressionTree) → numbered_from n tree ≡ Some m → n < m
rises n m (leaf place) h = let at = numbered_leaf n m place (eqb place n) refl h in omega (arith, at.1)
rises n m (both left right) h =
    let s = sides_at n m left right (numbered_from n left) refl h in
    omega (arith, rises n s.mid left s.before, rises s.mid m right s.behind)
rises n m (either left right) h =
    let s = sides_at n m left right (numbered_from n left) refl h in
    omega (arith, rises n s.mid left s.before, rises s.mid m right s.behind)

-- the parts of a choice of an AND
pub both_parts : (left right : ExpressionTree) (choice : List ℕ) → Has (choices_of (both left right)) choice
    → (a b : List ℕ) × Has (choices_of left) a × Has (choices_of right) b × (choice ≡ a ++ b)
both_parts left right choice at =
    let one = has_flat (λ some. map (λ more. some ++ more) (choices_of right)) (choices_of left) choice at in
    let other = has_map (λ more. one.0 ++ more) (choices_of right) choice one.2 in
    (one.0, other.0, one.1, other.1, other.2)

-- a choice has places of the tree alone
pub within : (n m : ℕ) (tree : ExpressionTree) → numbered_from n tree ≡ Some m → (choice : List ℕ) (place : ℕ) → Has (choices_of tree) choice → Has choice place → (n ≤ place) × (place < m)
within n m (leaf p) h choice place (inl same) held =
    let at = numbered_leaf n m p (eqb p n) refl h in
    let is : place ≡ p = elim (subst (λ c. Has c place) same held) [ inl e ↦ e | inr none ↦ absurd none ] in
    (omega (arith, at.0, is), omega (arith, at.0, at.1, is))
within n m (leaf p) h choice place (inr none) held = absurd none
within n m (both left right) h choice place at held =
    let s = sides_at n m left right (numbered_from n left) refl h in
    let l = rises n s.mid left s.before in
    let r = rises s.mid m right s.behind in
    let parts = both_parts left right choice at in
    elim (has_cases parts.0 parts.1 place (subst (λ c. Has c place) parts.4 held)) [
      | inl here ↦ let w = within n s.mid left s.before parts.0 place parts.2 here in (w.0, omega (arith, w.1, r))
      | inr there ↦ let w = within s.mid m right s.behind parts.1 place parts.3 there in (omega (arith, w.0, l), w.1)
    ]
within n m (either left right) h choice place at held =
    let s = sides_at n m left right (numbered_from n left) refl h in
    let l = rises n s.mid left s.before in
    let r = rises s.mid m right s.behind in
    elim (has_cases (choices_of left) (choices_of right) choice at) [
      | inl here ↦ let w = within n s.mid left s.before choice place here held in (w.0, omega (arith, w.1, r))
      | inr there ↦ let w = within s.mid m right s.behind choice place there held in (omega (arith, w.0, l), w.1)
    ]

-- and at least one
some_place : (tree : ExpressionTree) (choice : List ℕ) → Has (choices_of tree) choice → (place : ℕ) × Has choice place
some_place (leaf p) choice (inl same) = (p, subst (λ c. Has c p) (sym same) (inl refl))
some_place (leaf p) choice (inr none) = absurd none
some_place (both left right) choice at =
    let parts = both_parts left right choice at in
    let first = some_place left parts.0 parts.2 in
    (first.0, subst (λ c. Has c first.0) (sym parts.4) (has_left parts.0 parts.1 first.0 first.1))
some_place (either left right) choice at =
    elim (has_cases (choices_of left) (choices_of right) choice at) [
      | inl here ↦ some_place left choice here
      | inr there ↦ some_place right choice there
    ]

-- a place is not on both sides of a number
apart : (mid place : ℕ) → place < mid → mid ≤ place → ⊥
apart mid place below above = absurd (omega arith)

-- a choice has no other one in it
no_smaller : (n m : ℕ) (tree : ExpressionTree) → numbered_from n tree ≡ Some m → (one other : List ℕ) → Has (choices_of tree) one → Has (choices_of tree) other
    → ((place : ℕ) → Has one place → Has other place) → one ≡ other
no_smaller n m (leaf p) h one other (inl same) (inl too) inside = same ∙ sym too
no_smaller n m (leaf p) h one other (inr none) at inside = absurd none
no_smaller n m (leaf p) h one other (inl same) (inr none) inside = absurd none
no_smaller n m (both left right) h one other at that inside =
    let s = sides_at n m left right (numbered_from n left) refl h in
    let a = both_parts left right one at in
    let b = both_parts left right other that in
    let in_other : (place : ℕ) → Has (a.0 ++ a.1) place → Has (b.0 ++ b.1) place = λ place held. subst (λ c. Has c place) b.4 (inside place (subst (λ c. Has c place) (sym a.4) held)) in
    let front : a.0 ≡ b.0 =
    no_smaller n s.mid left s.before a.0 b.0 a.2 b.2 (λ place held. elim (has_cases b.0 b.1 place (in_other place (has_left a.0 a.1 place held))) [
      | inl here ↦ here
      | inr there ↦ absurd (apart s.mid place (within n s.mid left s.before a.0 place a.2 held).1 (within s.mid m right s.behind b.1 place b.3 there).0)
    ]) in
    let back : a.1 ≡ b.1 =
    no_smaller s.mid m right s.behind a.1 b.1 a.3 b.3 (λ place held. elim (has_cases b.0 b.1 place (in_other place (has_right a.0 a.1 place held))) [
      | inl here ↦ absurd (apart s.mid place (within n s.mid left s.before b.0 place b.2 here).1 (within s.mid m right s.behind a.1 place a.3 held).0)
      | inr there ↦ there
    ]) in
    a.4 ∙ ap₂ (λ (x y : List ℕ). x ++ y) front back ∙ sym b.4
no_smaller n m (either left right) h one other at that inside =
    let s = sides_at n m left right (numbered_from n left) refl h in
    elim (has_cases (choices_of left) (choices_of right) one at) [
      | inl here ↦ elim (has_cases (choices_of left) (choices_of right) other that) [
        | inl too ↦ no_smaller n s.mid left s.before one other here too inside
        | inr there ↦
            let first = some_place left one here in
            absurd (apart s.mid first.0 (within n s.mid left s.before one first.0 here first.1).1 (within s.mid m right s.behind other first.0 there (inside first.0 first.1)).0)
      ]
      | inr there ↦ elim (has_cases (choices_of left) (choices_of right) other that) [
        | inl here ↦
            let first = some_place right one there in
            absurd (apart s.mid first.0 (within n s.mid left s.before other first.0 here (inside first.0 first.1)).1 (within s.mid m right s.behind one first.0 there first.1).0)
        | inr too ↦ no_smaller s.mid m right s.behind one other there too inside
      ]
    ]

-- ---- choices

pub choice_has : (tree : ExpressionTree) (places : List ℕ) → is_choice tree places ≡ true → Has (choices_of tree) places
choice_has tree places e =
    let from = any_has (λ choice. bytes_eq choice places) (choices_of tree) e in
    subst (λ c. Has (choices_of tree) c) ((bytes_eq-Decides from.0 places).0 from.2) from.1

pub has_choice : (tree : ExpressionTree) (places : List ℕ) → Has (choices_of tree) places → is_choice tree places ≡ true
has_choice tree places at = any_from (λ choice. bytes_eq choice places) (choices_of tree) places at ((bytes_eq-Decides places places).1 refl)

isnt : (b : Bool) → (b ≡ true → ⊥) → false ≡ b
isnt true not_true = absurd (not_true refl)
isnt false not_true = refl

-- where just the places have a hit, the first choice with hits is these places exactly where they are a choice
pub choice_by_first : (n : ℕ) (tree : ExpressionTree) (places first : List ℕ) (has_hit : ℕ → Bool) (same : Bool) → numbered_from 0 tree ≡ Some n
    → ((place : ℕ) → has_hit place ≡ true → is_among places place ≡ true) → find (list_all has_hit) (choices_of tree) ≡ Some first → Decides same (first ≡ places) → same ≡ is_choice tree places
choice_by_first n tree places first has_hit true numbered inside found decides =
    sym (has_choice tree places (subst (λ c. Has (choices_of tree) c) (decides.0 refl) (find_at (list_all has_hit) (choices_of tree) first found).0))
choice_by_first n tree places first has_hit false numbered inside found decides =
    isnt (is_choice tree places) (λ is.
    let one = find_at (list_all has_hit) (choices_of tree) first found in
    let equal : first ≡ places =
    no_smaller 0 n tree numbered first places one.0 (choice_has tree places is)
    (λ place held. among_has places place (inside place (all_at has_hit first place one.1 held))) in
    true≢false (sym (decides.1 equal)))

-- and where there is no such choice, they are none
pub no_choice : (n : ℕ) (tree : ExpressionTree) (places : List ℕ) (has_hit : ℕ → Bool) → numbered_from 0 tree ≡ Some n
    → ((place : ℕ) → is_among places place ≡ true → place < n → has_hit place ≡ true) → is_accepted has_hit tree ≡ false → false ≡ is_choice tree places
no_choice n tree places has_hit numbered has refused =
    isnt (is_choice tree places) (λ is.
    let at = choice_has tree places is in
    let all = all_from has_hit places (λ place held. has place (has_among places place held) (within 0 n tree numbered places place at held).1) in
    true≢false (sym (any_from (list_all has_hit) (choices_of tree) places at all) ∙ refused))

-- ---- places that meet each choice

not_both : (b : Bool) → b ≡ true → not b ≡ true → ⊥
not_both true e none = true≢false (sym none)
not_both false e none = true≢false (sym e)

flip : (b : Bool) → (b ≡ true → ⊥) → not b ≡ true
flip true not_true = absurd (not_true refl)
flip false not_true = refl

none_among : (places choice : List ℕ) → list_any (is_among places) choice ≡ false → (place : ℕ) → Has choice place → not (is_among places place) ≡ true
none_among places choice e place held = flip (is_among places place) (λ among. true≢false (sym (any_from (is_among places) choice place held among) ∙ e))

meets_one : (n : ℕ) (tree : ExpressionTree) (places : List ℕ) (has_hit : ℕ → Bool) → numbered_from 0 tree ≡ Some n
    → ((place : ℕ) → place < n → has_hit place ≡ not (is_among places place)) → is_accepted has_hit tree ≡ false
    → (choice : List ℕ) → Has (choices_of tree) choice → (b : Bool) → list_any (is_among places) choice ≡ b → list_any (is_among places) choice ≡ true
meets_one n tree places has_hit numbered has refused choice at true e = e
meets_one n tree places has_hit numbered has refused choice at false e =
    let all = all_from has_hit choice (λ place held. has place (within 0 n tree numbered choice place at held).1 ∙ none_among places choice e place held) in
    absurd (true≢false (sym (any_from (list_all has_hit) (choices_of tree) choice at all) ∙ refused))

-- where all but the places have a hit, no choice has hits exactly where the places meet each
pub meets_by_refusal : (n : ℕ) (tree : ExpressionTree) (places : List ℕ) (has_hit : ℕ → Bool) → numbered_from 0 tree ≡ Some n
    → ((place : ℕ) → place < n → has_hit place ≡ not (is_among places place)) → is_accepted has_hit tree ≡ false → true ≡ meet_each tree places
meets_by_refusal n tree places has_hit numbered has refused =
    sym (all_from (λ choice. list_any (is_among places) choice) (choices_of tree)
    (λ choice at. meets_one n tree places has_hit numbered has refused choice at (list_any (is_among places) choice) refl))

pub not_met : (n : ℕ) (tree : ExpressionTree) (places : List ℕ) (has_hit : ℕ → Bool) (first : List ℕ) → numbered_from 0 tree ≡ Some n
    → ((place : ℕ) → place < n → has_hit place ≡ not (is_among places place)) → find (list_all has_hit) (choices_of tree) ≡ Some first → false ≡ meet_each tree places
not_met n tree places has_hit first numbered has found =
    isnt (meet_each tree places) (λ meets.
    let one = find_at (list_all has_hit) (choices_of tree) first found in
    let met = any_has (is_among places) first (all_at (λ choice. list_any (is_among places) choice) (choices_of tree) first meets one.0) in
    not_both (is_among places met.0) met.2
    (sym (has met.0 (within 0 n tree numbered first met.0 one.0 met.1).1) ∙ all_at has_hit first met.0 one.1 met.1))
