-- What blocks a tree that is not accepted.
use Rattle.std.proofs.Common.{◌≡◌, ◌∙◌, refl, sym, ap, ℕ, ◌+◌, Bool, true, false, cond, List, [], ◌∷◌, ◌++◌, arith, eqb}
use Rattle.std.specs.Prelude.{All, Any, Contains}
use Rattle.std.specs.List.{list_all}
use Rattle.std.proofs.lemmas.Bool.{ne_eqb, eqb-true, eqb-false, or_parts}
use Rattle.std.proofs.lemmas.List.Elements.{All-nil, All-cons, All-append, All-weaker, Contains-append_left, Contains-append_right, Contains-push}
use Rattle.std.proofs.lemmas.List.Folds.{list_any-append}
use Rattle.spdx_core.specs.Grammar.{ExpressionTree, leaf, both, either}
use Rattle.spdx_core.specs.certificates.Choices.{choices_of, is_accepted, blocks_of, MeetEach}
use Rattle.spdx_core.specs.certificates.Marks.{fewest_misses, sides, taken_places}
use Rattle.spdx_core.proofs.certificates.LeastLemmas.{with_each, All-with_each}
use Rattle.spdx_core.proofs.certificates.ChoiceLemmas.{accepted}

marked_side : (marked : Bool) (left right : List ℕ) → cond marked right left ≡ sides false marked left right
marked_side true left right = refl
marked_side false left right = refl

-- what blocks a tree is what the walk for it takes
pub blocks_taken : (has_hit : ℕ → Bool) (tree : ExpressionTree) → blocks_of has_hit tree ≡ taken_places has_hit false true tree
blocks_taken has_hit (leaf place) = refl
blocks_taken has_hit (both left right) =
    ap (λ t. cond t (blocks_of has_hit right) (blocks_of has_hit left)) (accepted has_hit left)
    ∙ marked_side (eqb (fewest_misses has_hit left) 0) (blocks_of has_hit left) (blocks_of has_hit right)
    ∙ ap (λ l. sides false (eqb (fewest_misses has_hit left) 0) l (blocks_of has_hit right)) (blocks_taken has_hit left)
    ∙ ap (λ r. sides false (eqb (fewest_misses has_hit left) 0) (taken_places has_hit false true left) r) (blocks_taken has_hit right)
blocks_taken has_hit (either left right) =
    ap (λ l. l ++ blocks_of has_hit right) (blocks_taken has_hit left) ∙ ap (λ r. taken_places has_hit false true left ++ r) (blocks_taken has_hit right)

-- neither side of an OR is accepted
pub neither : (has_hit : ℕ → Bool) (left right : ExpressionTree) → is_accepted has_hit (either left right) ≡ false → (is_accepted has_hit left ≡ false) × (is_accepted has_hit right ≡ false)
neither has_hit left right h =
    or_parts (is_accepted has_hit left) (is_accepted has_hit right) (sym (list_any-append (list_all has_hit) (choices_of left) (choices_of right)) ∙ h)

-- one side of an AND is not accepted
pub other_side : (has_hit : ℕ → Bool) (left right : ExpressionTree) → is_accepted has_hit (both left right) ≡ false → is_accepted has_hit left ≡ true → is_accepted has_hit right ≡ false
other_side has_hit left right h l =
    let none : fewest_misses has_hit left ≡ 0 = eqb-true (fewest_misses has_hit left) 0 (sym (accepted has_hit left) ∙ l) in
    let some : fewest_misses has_hit left + fewest_misses has_hit right ≡ 0 → ⊥ = eqb-false (fewest_misses has_hit left + fewest_misses has_hit right) 0 (sym (accepted has_hit (both left right)) ∙ h) in
    accepted has_hit right ∙ ne_eqb (fewest_misses has_hit right) 0 (λ e. some (omega arith))

pub any_of : {X : Type 0} (P : X → Type 0) (xs : List X) (x : X) → Contains xs x → P x → Any P xs
any_of P xs x at p = (at.0, x, at.1, at.2, p)

any_weaker : {X : Type 0} (P Q : X → Type 0) → ((x : X) → P x → Q x) → (xs : List X) → Any P xs → Any Q xs
any_weaker P Q weaker xs a = (a.0, a.1, a.2, a.3, weaker a.1 a.4)

any_left : {X : Type 0} (P : X → Type 0) (xs ys : List X) → Any P xs → Any P (xs ++ ys)
any_left P xs ys a = any_of P (xs ++ ys) a.1 (Contains-append_left xs ys a.1 (a.0, a.2, a.3)) a.4

any_right : {X : Type 0} (P : X → Type 0) (xs ys : List X) → Any P ys → Any P (xs ++ ys)
any_right P xs ys a = any_of P (xs ++ ys) a.1 (Contains-append_right xs ys a.1 (a.0, a.2, a.3)) a.4

anything : (choices : List (List ℕ)) → All (λ choice. Unit {0}) choices
anything choices k d lt = tt

-- the side of an AND that is not accepted
meet_both : (l r : List ℕ) (some others : List (List ℕ)) (marked : Bool) → (marked ≡ true → MeetEach r others) → (marked ≡ false → MeetEach l some) → MeetEach (cond marked r l) (with_each some others)
meet_both l r some others true right left =
    All-with_each (λ a. Unit {0}) (λ b. Any (Contains b) r) (λ c. Any (Contains c) r)
    (λ a b x m. any_weaker (Contains b) (Contains (a ++ b)) (λ place at. Contains-append_right a b place at) r m) some others (anything some) (right refl)
meet_both l r some others false right left =
    All-with_each (λ a. Any (Contains a) l) (λ b. Unit {0}) (λ c. Any (Contains c) l)
    (λ a b m x. any_weaker (Contains a) (Contains (a ++ b)) (λ place at. Contains-append_left a b place at) l m) some others (left refl) (anything others)

-- every choice of a tree that is not accepted holds one of its blocks
pub meet_each : (has_hit : ℕ → Bool) (tree : ExpressionTree) → is_accepted has_hit tree ≡ false → MeetEach (blocks_of has_hit tree) (choices_of tree)
meet_each has_hit (leaf place) h =
    All-cons (λ choice. Any (Contains choice) (place ∷ [])) (place ∷ []) []
    (any_of (Contains (place ∷ [])) (place ∷ []) place (Contains-push [] place) (Contains-push [] place))
    (All-nil (λ choice. Any (Contains choice) (place ∷ [])))
meet_each has_hit (either left right) h =
    let parts = neither has_hit left right h in
    let l = blocks_of has_hit left in
    let r = blocks_of has_hit right in
    All-append (λ choice. Any (Contains choice) (l ++ r)) (choices_of left) (choices_of right)
    (All-weaker (λ choice. Any (Contains choice) l) (λ choice. Any (Contains choice) (l ++ r)) (λ choice a. any_left (Contains choice) l r a) (choices_of left) (meet_each has_hit left parts.0))
    (All-weaker (λ choice. Any (Contains choice) r) (λ choice. Any (Contains choice) (l ++ r)) (λ choice a. any_right (Contains choice) l r a) (choices_of right) (meet_each has_hit right parts.1))
meet_each has_hit (both left right) h =
    meet_both (blocks_of has_hit left) (blocks_of has_hit right) (choices_of left) (choices_of right) (is_accepted has_hit left)
    (λ is. meet_each has_hit right (other_side has_hit left right h is)) (λ is. meet_each has_hit left is)

no_hit_at : (b : Bool) → eqb (cond b 0 1) 0 ≡ false → b ≡ false
no_hit_at true h = h
no_hit_at false h = refl

-- what holds of the places of the taken side
pub one_side : (P : List ℕ → Type 0) (l r : List ℕ) (marked : Bool) → (marked ≡ true → P r) → (marked ≡ false → P l) → P (cond marked r l)
one_side P l r true right left = right refl
one_side P l r false right left = left refl

-- none of its blocks has a hit
pub blocks_have_none : (has_hit : ℕ → Bool) (tree : ExpressionTree) → is_accepted has_hit tree ≡ false → All (λ place. has_hit place ≡ false) (blocks_of has_hit tree)
blocks_have_none has_hit (leaf place) h =
    All-cons (λ p. has_hit p ≡ false) place [] (no_hit_at (has_hit place) (sym (accepted has_hit (leaf place)) ∙ h)) (All-nil (λ p. has_hit p ≡ false))
blocks_have_none has_hit (either left right) h =
    let parts = neither has_hit left right h in
    All-append (λ p. has_hit p ≡ false) (blocks_of has_hit left) (blocks_of has_hit right) (blocks_have_none has_hit left parts.0) (blocks_have_none has_hit right parts.1)
blocks_have_none has_hit (both left right) h =
    one_side (λ places. All (λ p. has_hit p ≡ false) places) (blocks_of has_hit left) (blocks_of has_hit right) (is_accepted has_hit left)
    (λ is. blocks_have_none has_hit right (other_side has_hit left right h is)) (λ is. blocks_have_none has_hit left is)
