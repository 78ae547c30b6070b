-- Values level by level.
use Rattle.std.proofs.Common.{◌≡◌, ℕ, zero, suc, ◌<◌, ◌≤◌, not, eqb, List, [], ◌∷◌, ◌++◌, map, length, get_or, Some, None, refl, ap, arith, rules}
use Rattle.std.proofs.lemmas.Bool.Decides.{nat_tests}
use Rattle.toml_subset.specs.Data as «data»
use Rattle.toml_subset.specs.Data.{Toml}
use Rattle.toml_value.specs.Lookup.{has_entries, with_item, with_entry, item_at}
use Rattle.toml_value.specs.Views.{value_view, content_view, values_view, entries_view, items_from_list, entries_from_list}
use Rattle.toml_subset.specs.declared.string.Key.{Key}
use Rattle.toml_value.specs.declared.value.Value.{Value, the_lemmas}
use Rattle.toml_value.specs.declared.value.ValueInner.{Array, Table}
use Rattle.toml_value.specs.declared.value.Values.{Values, out-Values, roll-Values}
use Rattle.toml_value.specs.declared.value.Entries.{Entries, out-Entries, roll-Entries}
use Rattle.toml_value.specs.declared.value.ValueInner.{ValueInner}
use Rattle.toml_value.specs.declared.value.ValueInner.TheOpen.{Values-F, Entries-F}

pub values_view-is : (v : Values) → values_view v ≡ items_from_list (map (λ x. value_view x) (out-Values v).items.items)
values_view-is v = search (rules, the_lemmas)

pub entries_view-is : (e : Entries) → entries_view e ≡ entries_from_list (map (λ p. (p.0, value_view p.1)) (out-Entries e).items.items)
entries_view-is e = search (rules, the_lemmas)

pub content_view-Table : (e : Entries) → content_view (Table e) ≡ data.table (entries_view e)
content_view-Table e = search (rules, the_lemmas)

pub content_view-Array : (v : Values) → content_view (Array v) ≡ data.array (values_view v)
content_view-Array v = search (rules, the_lemmas)

pub values_view-roll : (r : Values-F ValueInner Entries Value Values) → values_view (roll-Values r) ≡ items_from_list (map (λ x. value_view x) r.items.items)
values_view-roll r = search (rules, the_lemmas)

pub value_view-content : (v : Value) → (value_view v).content ≡ content_view v.inner
value_view-content v = search (rules, the_lemmas)

-- a list that was appended to
pub items_of-push : (xs : List Toml) (x : Toml) → items_from_list (xs ++ x ∷ []) ≡ with_item (items_from_list xs) x
items_of-push [] x = refl
items_of-push (y ∷ ys) x = ap (data.item y.span y.content) (items_of-push ys x)

pub entries_view-roll : (r : Entries-F ValueInner Entries Value Values) → entries_view (roll-Entries r) ≡ entries_from_list (map (λ p. (p.0, value_view p.1)) r.items.items)
entries_view-roll r = search (rules, the_lemmas)

pub entries_of-push : (xs : List (Key × Value)) (key : Key) (x : Value)
    → entries_from_list (map (λ p. (p.0, value_view p.1)) (xs ++ (key, x) ∷ [])) ≡ with_entry (entries_from_list (map (λ p. (p.0, value_view p.1)) xs)) key (value_view x)
entries_of-push [] key x = refl
entries_of-push (y ∷ ys) key x = ap (data.entry y.0 (value_view y.1).span (value_view y.1).content) (entries_of-push ys key x)

-- an item by its place
pub item_at_within : (xs : List Value) (i : ℕ) (d : Value) → i < length xs → Some (value_view (get_or xs i d)) ≡ item_at i (items_from_list (map (λ x. value_view x) xs))
item_at_within [] i d inside = absurd (omega arith)
item_at_within (x ∷ xs) zero d inside = refl
item_at_within (x ∷ xs) (suc i) d inside = item_at_within xs i d (omega arith)

pub item_at_past : (xs : List Value) (i : ℕ) → length xs ≤ i → None ≡ item_at i (items_from_list (map (λ x. value_view x) xs))
item_at_past [] i past = refl
item_at_past (x ∷ xs) zero past = absurd (omega arith)
item_at_past (x ∷ xs) (suc i) past = item_at_past xs i (omega arith)

-- a table has a key where its list has an entry
pub has_entries-is : (xs : List (Key × Value)) → has_entries (data.table (entries_from_list (map (λ p. (p.0, value_view p.1)) xs))) ≡ not (eqb (length xs) 0)
has_entries-is [] = refl
has_entries-is (x ∷ xs) = grind (arith, nat_tests)
