-- An accepted tree is one whose fewest places without a hit are none.
use Rattle.std.proofs.Common.{◌≡◌, ◌∙◌, refl, sym, ap, ℕ, ◌<◌, ◌≤◌, Bool, true, false, cond, not, ◌&&◌, ◌||◌, List, [], ◌∷◌, ◌++◌, Option, Some, None, is_some, arith, leb, eqb, eq-eqb}
use Rattle.std.specs.Prelude.{All, find}
use Rattle.std.specs.List.{list_any, list_all}
use Rattle.std.proofs.lemmas.Bool.{le-leb, lt-leb, and_right, ne_eqb, eqb-true, eqb-false}
use Rattle.std.proofs.lemmas.List.Elements.{All-weaker, All-head, All-tail}
use Rattle.std.proofs.lemmas.List.Sums.{list_all-from_AllPass}
use Rattle.std.proofs.lemmas.List.Folds.{sum_by-zero}
use Rattle.spdx_core.specs.Grammar.{ExpressionTree}
use Rattle.spdx_core.specs.certificates.Choices.{choices_of, misses, is_accepted, first_choice, least_choice, is_least}
use Rattle.spdx_core.specs.certificates.Marks.{fewest_misses, taken_places}
use Rattle.spdx_core.proofs.certificates.LeastLemmas.{none_below, least_taken}

list_all_agree : (p q : ℕ → Bool) → ((x : ℕ) → p x ≡ q x) → (xs : List ℕ) → list_all p xs ≡ list_all q xs
list_all_agree p q same [] = refl
list_all_agree p q same (x ∷ xs) = ap (λ t. t && list_all p xs) (same x) ∙ ap (λ t. q x && t) (list_all_agree p q same xs)

hit_counts : (b : Bool) → b ≡ eqb (cond (not b) 1 0) 0
hit_counts true = refl
hit_counts false = refl

-- a choice has a hit at each of its places where it has none without
pub all_met : (has_hit : ℕ → Bool) (choice : List ℕ) → list_all has_hit choice ≡ eqb (misses has_hit choice) 0
all_met has_hit choice =
    list_all_agree has_hit (λ x. eqb (cond (not (has_hit x)) 1 0) 0) (λ x. hit_counts (has_hit x)) choice
    ∙ sym (sum_by-zero (λ x. cond (not (has_hit x)) 1 0) choice)

find_at : {X : Type 0} (p : X → Bool) (before : List X) (x : X) (behind : List X) → All (λ y. p y ≡ false) before → p x ≡ true → find p (before ++ x ∷ behind) ≡ Some x
find_at p [] x behind none here = ap (λ t. cond t (Some x) (find p behind)) here
find_at p (y ∷ before) x behind none here =
    ap (λ t. cond t (Some y) (find p (before ++ x ∷ behind))) (All-head (λ z. p z ≡ false) y before none)
    ∙ find_at p before x behind (All-tail (λ z. p z ≡ false) y before none) here

find_none : {X : Type 0} (p : X → Bool) (xs : List X) → All (λ y. p y ≡ false) xs → find p xs ≡ None
find_none p [] none = refl
find_none p (y ∷ xs) none =
    ap (λ t. cond t (Some y) (find p xs)) (All-head (λ z. p z ≡ false) y xs none) ∙ find_none p xs (All-tail (λ z. p z ≡ false) y xs none)

any_step : {X : Type 0} (b t : Bool) (x : X) (found : Option X) → t ≡ is_some found → (b || t) ≡ is_some (cond b (Some x) found)
any_step true t x found h = refl
any_step false t x found h = h

pub any_found : {X : Type 0} (p : X → Bool) (xs : List X) → list_any p xs ≡ is_some (find p xs)
any_found p [] = refl
any_found p (x ∷ xs) = any_step (p x) (list_any p xs) x (find p xs) (any_found p xs)

list_all_missed : {X : Type 0} (p : X → Bool) (before : List X) (x : X) (behind : List X) → p x ≡ false → list_all p (before ++ x ∷ behind) ≡ false
list_all_missed p [] x behind h = ap (λ t. t && list_all p behind) h
list_all_missed p (y ∷ before) x behind h = and_right (p y) (list_all p (before ++ x ∷ behind)) (list_all_missed p before x behind h)

-- an accepted tree has the walk's choice as its first
pub first_taken : (has_hit : ℕ → Bool) (tree : ExpressionTree) → eqb (fewest_misses has_hit tree) 0 ≡ true → first_choice has_hit tree ≡ Some (taken_places has_hit true false tree)
first_taken has_hit tree none =
    let least = least_taken has_hit tree in
    let is : fewest_misses has_hit tree ≡ 0 = eqb-true (fewest_misses has_hit tree) 0 none in
    let missed : All (λ other. list_all has_hit other ≡ false) least.before =
    All-weaker (λ other. fewest_misses has_hit tree < misses has_hit other) (λ other. list_all has_hit other ≡ false)
    (λ other h. all_met has_hit other ∙ ne_eqb (misses has_hit other) 0 (λ e. omega arith)) least.before least.more in
    ap (find (list_all has_hit)) least.parts
    ∙ find_at (list_all has_hit) least.before (taken_places has_hit true false tree) least.behind missed
    (all_met has_hit (taken_places has_hit true false tree) ∙ eq-eqb (misses has_hit (taken_places has_hit true false tree)) 0 (least.has ∙ is))

-- any other tree has none
pub none_first : (has_hit : ℕ → Bool) (tree : ExpressionTree) → eqb (fewest_misses has_hit tree) 0 ≡ false → first_choice has_hit tree ≡ None
none_first has_hit tree some =
    let least = least_taken has_hit tree in
    let isnt : fewest_misses has_hit tree ≡ 0 → ⊥ = eqb-false (fewest_misses has_hit tree) 0 some in
    find_none (list_all has_hit) (choices_of tree)
    (All-weaker (λ other. fewest_misses has_hit tree ≤ misses has_hit other) (λ other. list_all has_hit other ≡ false)
    (λ other h. all_met has_hit other ∙ ne_eqb (misses has_hit other) 0 (λ e. isnt (omega arith)))
    (choices_of tree) (none_below has_hit (choices_of tree) (fewest_misses has_hit tree) (taken_places has_hit true false tree) least))

accepted_at : (has_hit : ℕ → Bool) (tree : ExpressionTree) (none : Bool) → eqb (fewest_misses has_hit tree) 0 ≡ none → is_accepted has_hit tree ≡ none
accepted_at has_hit tree true is = any_found (list_all has_hit) (choices_of tree) ∙ ap is_some (first_taken has_hit tree is)
accepted_at has_hit tree false is = any_found (list_all has_hit) (choices_of tree) ∙ ap is_some (none_first has_hit tree is)

-- a tree is accepted where the fewest places without a hit are none
pub accepted : (has_hit : ℕ → Bool) (tree : ExpressionTree) → is_accepted has_hit tree ≡ eqb (fewest_misses has_hit tree) 0
accepted has_hit tree = accepted_at has_hit tree (eqb (fewest_misses has_hit tree) 0) refl

-- the walk's choice is the least one
pub least_is_taken : (has_hit : ℕ → Bool) (tree : ExpressionTree) → least_choice has_hit tree ≡ Some (taken_places has_hit true false tree)
least_is_taken has_hit tree =
    let least = least_taken has_hit tree in
    let all = choices_of tree in
    let chosen = taken_places has_hit true false tree in
    let not_least : All (λ other. is_least has_hit all other ≡ false) least.before =
    All-weaker (λ other. fewest_misses has_hit tree < misses has_hit other) (λ other. is_least has_hit all other ≡ false)
    (λ other h.
    ap (λ choices. is_least has_hit choices other) least.parts
    ∙ list_all_missed (λ x. leb (misses has_hit other) (misses has_hit x)) least.before chosen least.behind
    (lt-leb (misses has_hit other) (misses has_hit chosen) (omega (arith, least.has))))
    least.before least.more in
    let is : is_least has_hit all chosen ≡ true =
    list_all-from_AllPass (λ x. leb (misses has_hit chosen) (misses has_hit x)) all
    (All-weaker (λ other. fewest_misses has_hit tree ≤ misses has_hit other) (λ x. leb (misses has_hit chosen) (misses has_hit x) ≡ true)
    (λ x h. le-leb (misses has_hit chosen) (misses has_hit x) (omega (arith, least.has))) all
    (none_below has_hit all (fewest_misses has_hit tree) chosen least)) in
    ap (find (is_least has_hit all)) least.parts ∙ find_at (is_least has_hit all) least.before chosen least.behind not_least is
