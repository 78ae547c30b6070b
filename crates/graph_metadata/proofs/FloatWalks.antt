-- The walks over lists and objects that look for a float, one value after another.
use Rattle.std.proofs.Common.{◌≡◌, ℕ, ◌+◌, ◌<◌, ◌≤◌, List, [], ◌∷◌, length, drop, get_or, true, false, T, ◌||◌, Option, Some, None, is_some, Ok, refl, sym, ◌∙◌, ap, subst, String, string_bytes}
use Rattle.std.specs.Global.{Global}
use Rattle.std.specs.Option.{option_or}
use Rattle.std.proofs.lemmas.List.{drop_all}
use Rattle.serde_json.specs.View.{view, items_view, members_view}
use Rattle.serde_json.specs.Written.{has_float, items_have_float, members_have_float}
use Rattle.serde_json.specs.declared.value.Value.{Value}
use Rattle.serde_json.specs.Data.{Data}
use Rattle.graph_metadata.specs.Floats.{float_in, float_in_items, float_in_members, unless_found, unless_float}
use Rattle.graph_metadata.specs.Told.{with_key, with_index}
use Rattle.graph_metadata.proofs.Drops.{at-drop}
use Rattle.graph_metadata.proofs.FloatLemmas.{found-data}

none_or : (x y : Option (List ℕ)) → is_some x ≡ false → option_or x y ≡ y
none_or (Some x) y e = absurd (subst T e tt)
none_or None y e = refl

some_or_rest : (x y : Option (List ℕ)) → is_some x ≡ true → option_or x y ≡ x
some_or_rest (Some x) y e = refl
some_or_rest None y e = absurd (subst T (sym e) tt)

module _ (xs : List Value) (i : ℕ) (x : Value) (h : i < length xs) (at : x ≡ get_or xs i x) where
  split : items_view (drop i xs) ≡ items_view (x ∷ drop (i + 1) xs)
  split = ap items_view (at-drop xs i x h at)

  pub items-next : has_float (view x) ≡ false
      → items_have_float (items_view (drop i xs)) ≡ items_have_float (items_view (drop (i + 1) xs))
  items-next e = ap items_have_float split ∙ ap (λ b. b || items_have_float (items_view (drop (i + 1) xs))) e

  pub items-held : has_float (view x) ≡ true → items_have_float (items_view (drop i xs)) ≡ true
  items-held e = ap items_have_float split ∙ ap (λ b. b || items_have_float (items_view (drop (i + 1) xs))) e

  pub float-items-next : (place : List ℕ) → has_float (view x) ≡ false
      → float_in_items place i (items_view (drop i xs)) ≡ float_in_items place (i + 1) (items_view (drop (i + 1) xs))
  float-items-next place e =
      ap (float_in_items place i) split
      ∙ none_or (float_in (with_index place i) (view x)) (float_in_items place (i + 1) (items_view (drop (i + 1) xs)))
      (found-data (with_index place i) (view x) ∙ e)

  pub float-items-held : (place : List ℕ) → has_float (view x) ≡ true
      → float_in_items place i (items_view (drop i xs)) ≡ float_in (with_index place i) (view x)
  float-items-held place e =
      ap (float_in_items place i) split
      ∙ some_or_rest (float_in (with_index place i) (view x)) (float_in_items place (i + 1) (items_view (drop (i + 1) xs)))
      (found-data (with_index place i) (view x) ∙ e)

pub items-end : (xs : List Value) (i : ℕ) → length xs ≤ i → items_have_float (items_view (drop i xs)) ≡ false
items-end xs i h = ap (λ rest. items_have_float (items_view rest)) (drop_all i xs h)

pub float-items-end : (place : List ℕ) (xs : List Value) (i : ℕ) → length xs ≤ i
    → float_in_items place i (items_view (drop i xs)) ≡ None
float-items-end place xs i h = ap (λ rest. float_in_items place i (items_view rest)) (drop_all i xs h)

module _ (left : List (String Global × Value)) (key : String Global) (value : Value) (rest : List (String Global × Value))
    (is : left ≡ (key, value) ∷ rest) where
  pub members-next : has_float (view value) ≡ false
      → members_have_float (members_view left) ≡ members_have_float (members_view rest)
  members-next e =
      ap (λ all. members_have_float (members_view all)) is ∙ ap (λ b. b || members_have_float (members_view rest)) e

  pub members-held : has_float (view value) ≡ true → members_have_float (members_view left) ≡ true
  members-held e =
      ap (λ all. members_have_float (members_view all)) is ∙ ap (λ b. b || members_have_float (members_view rest)) e

  pub float-members-next : (place : List ℕ) → has_float (view value) ≡ false
      → float_in_members place (members_view left) ≡ float_in_members place (members_view rest)
  float-members-next place e =
      ap (λ all. float_in_members place (members_view all)) is
      ∙ none_or (float_in (with_key place (string_bytes key)) (view value)) (float_in_members place (members_view rest))
      (found-data (with_key place (string_bytes key)) (view value) ∙ e)

  pub float-members-held : (place : List ℕ) → has_float (view value) ≡ true
      → float_in_members place (members_view left) ≡ float_in (with_key place (string_bytes key)) (view value)
  float-members-held place e =
      ap (λ all. float_in_members place (members_view all)) is
      ∙ some_or_rest (float_in (with_key place (string_bytes key)) (view value)) (float_in_members place (members_view rest))
      (found-data (with_key place (string_bytes key)) (view value) ∙ e)

pub members-end : (left : List (String Global × Value)) → left ≡ [] → members_have_float (members_view left) ≡ false
members-end left e = ap (λ all. members_have_float (members_view all)) e

pub float-members-end : (place : List ℕ) (left : List (String Global × Value)) → left ≡ []
    → float_in_members place (members_view left) ≡ None
float-members-end place left e = ap (λ all. float_in_members place (members_view all)) e

none_if_none : (found : Option (List ℕ)) → is_some found ≡ false → found ≡ None
none_if_none (Some place) e = absurd (subst T e tt)
none_if_none None e = refl

-- a value that holds no float passes
pub float-free : (found : Data) → has_float found ≡ false → unless_float found ≡ Ok found
float-free found e = ap (unless_found found) (none_if_none (float_in [] found) (found-data [] found ∙ e))
