-- A first float is found exactly where there is one.
use Rattle.std.proofs.Common.{◌≡◌, ℕ, ◌+◌, List, Bool, true, false, ◌||◌, Option, Some, None, is_some, cond, refl, ◌∙◌, ap}
use Rattle.std.specs.Option.{option_or}
use Rattle.serde_json.specs.Data.{Data, null, boolean, number, string, array, object, Items, no_items, item, Members, no_members, member}
use Rattle.serde_json.specs.Find.{is_float}
use Rattle.serde_json.specs.Written.{has_float, items_have_float, members_have_float}
use Rattle.graph_metadata.specs.Floats.{float_in, float_in_items, float_in_members}
use Rattle.graph_metadata.specs.Told.{with_key, with_index}

some_if : (b : Bool) (place : List ℕ) → is_some (cond b (Some place) None) ≡ b
some_if true place = refl
some_if false place = refl

some_or : (x y : Option (List ℕ)) (a b : Bool) → is_some x ≡ a → is_some y ≡ b → is_some (option_or x y) ≡ (a || b)
some_or (Some x) y a b e f = ap (λ w. w || b) e
some_or None y a b e f = f ∙ ap (λ w. w || b) e

mutual
  pub found-data : (place : List ℕ) (found : Data) → is_some (float_in place found) ≡ has_float found
  found-data place null = refl
  found-data place (boolean b) = refl
  found-data place (number n) = some_if (is_float n) place
  found-data place (string text) = refl
  found-data place (array items) = found-items place 0 items
  found-data place (object members) = found-members place members

  found-items : (place : List ℕ) (index : ℕ) (items : Items) → is_some (float_in_items place index items) ≡ items_have_float items
  found-items place index no_items = refl
  found-items place index (item first rest) =
      some_or (float_in (with_index place index) first) (float_in_items place (index + 1) rest) (has_float first)
      (items_have_float rest) (found-data (with_index place index) first) (found-items place (index + 1) rest)

  found-members : (place : List ℕ) (members : Members) → is_some (float_in_members place members) ≡ members_have_float members
  found-members place no_members = refl
  found-members place (member key first rest) =
      some_or (float_in (with_key place key) first) (float_in_members place rest) (has_float first) (members_have_float rest)
      (found-data (with_key place key) first) (found-members place rest)
