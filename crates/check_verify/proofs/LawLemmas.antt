-- The laws of places.
use Rattle.std.proofs.Common.{◌≡◌, inl, inr, refl, sym, subst, ℕ, true, List, [], ◌∷◌, arith}
use Rattle.std.specs.Prelude.{All, Any, Contains, IsTrue}
use Rattle.std.specs.List.{list_any}
use Rattle.std.proofs.lemmas.List.Elements.{All-nil, All-cons, All-contains, Contains-append_cases, Contains-append_left, Contains-append_right, Contains-push, Contains-push_cases}
use Rattle.spdx_core.specs.Grammar.{ExpressionTree}
use Rattle.spdx_core.specs.certificates.Choices.{MeetEach, choices_of}
use Rattle.check_verify.specs.Terms.{is_among, is_choice, meet_each}
use Rattle.check_verify.proofs.Choices.{Has, all_at, all_from, among_has, any_from, any_has, choice_has, has_among, has_choice}

-- ---- items of lists, by index and one by one

pub has_contains : {A : Type 0} (xs : List A) (x : A) → Has xs x → Contains xs x
has_contains [] x at = absurd at
has_contains (y ∷ ys) x (inl same) = subst (λ z. Contains (y ∷ ys) z) (sym same) (Contains-append_left (y ∷ []) ys y (Contains-push [] y))
has_contains (y ∷ ys) x (inr at) = Contains-append_right (y ∷ []) ys x (has_contains ys x at)

none_there : {A : Type 0} (x : A) → Contains {X = A} [] x → ⊥
none_there x held = absurd (omega (arith, held.1))

pub contains_has : {A : Type 0} (xs : List A) (x : A) → Contains xs x → Has xs x
contains_has [] x held = absurd (none_there x held)
contains_has (y ∷ ys) x held =
    elim (Contains-append_cases (y ∷ []) ys x held) [
      | inl here ↦ elim (Contains-push_cases [] y x here) [ inl none ↦ absurd (none_there x none) | inr same ↦ inl (sym same) ]
      | inr there ↦ inr (contains_has ys x there)
    ]

all_of : {A : Type 0} (P : A → Type 0) (xs : List A) → ((x : A) → Has xs x → P x) → All P xs
all_of P [] each = All-nil P
all_of P (x ∷ xs) each = All-cons P x xs (each x (inl refl)) (all_of P xs (λ y at. each y (inr at)))

-- ---- the laws

pub choices_held : (tree : ExpressionTree) (places : List ℕ) → (IsTrue (is_choice tree places) → Contains (choices_of tree) places) × (Contains (choices_of tree) places → IsTrue (is_choice tree places))
choices_held tree places = (
  λ is. has_contains (choices_of tree) places (choice_has tree places is),
  λ held. has_choice tree places (contains_has (choices_of tree) places held),
)

met_by : (places choice : List ℕ) → list_any (is_among places) choice ≡ true → Any (Contains choice) places
met_by places choice met =
    let from = any_has (is_among places) choice met in
    let at = has_contains places from.0 (among_has places from.0 from.2) in
    (at.0, from.0, at.1, at.2, has_contains choice from.0 from.1)

meets : (places choice : List ℕ) → Any (Contains choice) places → list_any (is_among places) choice ≡ true
meets places choice any =
    any_from (is_among places) choice any.1 (contains_has choice any.1 any.4) (has_among places any.1 (contains_has places any.1 (any.0, any.2, any.3)))

pub meeting_told : (tree : ExpressionTree) (places : List ℕ) → (IsTrue (meet_each tree places) → MeetEach places (choices_of tree)) × (MeetEach places (choices_of tree) → IsTrue (meet_each tree places))
meeting_told tree places = (
  λ told. all_of (λ choice. Any (Contains choice) places) (choices_of tree) (λ choice at. met_by places choice (all_at (λ other. list_any (is_among places) other) (choices_of tree) choice told at)),
  λ met. all_from (λ other. list_any (is_among places) other) (choices_of tree)
      (λ choice at. meets places choice (All-contains (λ other. Any (Contains other) places) (choices_of tree) choice met (has_contains (choices_of tree) choice at))),
)
