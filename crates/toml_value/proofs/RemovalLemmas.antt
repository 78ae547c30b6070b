-- Entries and items that are taken out, in the lists of the program.
use Rattle.std.proofs.Common.{◌≡◌, ℕ, zero, suc, ◌+◌, ◌<◌, Bool, true, false, cond, List, [], ◌∷◌, map, length, get_or, Some, None, refl, sym, ap, ◌∙◌, arith}
use Rattle.std.proofs.lemmas.Iterator.Adapters.{position_from-zero}
use Rattle.std.proofs.lemmas.List.Quantifiers.{position-Some}
use Rattle.std.specs.List.{position, position_from, remove}
use Rattle.std.specs.Str.{bytes_eq}
use Rattle.toml_subset.specs.Data as «data»
use Rattle.toml_subset.specs.Data.{Entries, Toml}
use Rattle.toml_subset.specs.declared.string.Key.{Key}
use Rattle.toml_value.specs.Taken.{values_of}
use Rattle.toml_value.specs.Removal.{entry_at, entries_without, names_in}
use Rattle.toml_value.specs.Views.{value_view, items_from_list, entries_from_list}
use Rattle.toml_value.specs.declared.value.Value.{Value}

-- the items of a list are those that it was made of
pub values_of-list : (xs : List Value) → map (λ v. value_view v) xs ≡ values_of (items_from_list (map (λ v. value_view v) xs))
values_of-list [] = refl
values_of-list (x ∷ xs) = ap (λ vs. value_view x ∷ vs) (values_of-list xs)

abbrev pub seen : Key × Value → Key × Toml
seen p = (p.0, value_view p.1)

abbrev pub entries_of : List (Key × Value) → Entries
entries_of xs = entries_from_list (map (λ p. (p.0, value_view p.1)) xs)

abbrev pub has_name : List ℕ → Key × Value → Bool
has_name name p = bytes_eq p.0.name.text name

pub names_in-list : (xs : List (Key × Value)) → map (λ p. p.0.name.text) xs ≡ names_in (entries_of xs)
names_in-list [] = refl
names_in-list (x ∷ xs) = ap (λ ns. x.0.name.text ∷ ns) (names_in-list xs)

-- the first entry of a name, by its place
pub entry_at-place : (name : List ℕ) (xs : List (Key × Value)) (i : ℕ) (d : Key × Value) → i < length xs → has_name name (get_or xs i d) ≡ true
    → ((k : ℕ) → k < i → has_name name (get_or xs k d) ≡ false) → Some (seen (get_or xs i d)) ≡ entry_at name (entries_of xs)
entry_at-place name [] i d inside hit before = absurd (omega arith)
entry_at-place name (x ∷ xs) zero d inside hit before = rw hit refl
entry_at-place name (x ∷ xs) (suc i) d inside hit before =
    let miss : bytes_eq x.0.name.text name ≡ false = before 0 (omega arith) in
    rw miss (entry_at-place name xs i d (omega arith) hit (λ k h. before (suc k) (omega arith)))

-- the entries without it
pub without-place : (name : List ℕ) (xs : List (Key × Value)) (i : ℕ) (d : Key × Value) → i < length xs → has_name name (get_or xs i d) ≡ true
    → ((k : ℕ) → k < i → has_name name (get_or xs k d) ≡ false) → entries_of (remove xs i) ≡ entries_without name (entries_of xs)
without-place name [] i d inside hit before = absurd (omega arith)
without-place name (x ∷ xs) zero d inside hit before = rw hit refl
without-place name (x ∷ xs) (suc i) d inside hit before =
    let miss : bytes_eq x.0.name.text name ≡ false = before 0 (omega arith) in
    rw miss (ap (data.entry x.0 (value_view x.1).span (value_view x.1).content)
    (without-place name xs i d (omega arith) hit (λ k h. before (suc k) (omega arith))))

pub record Lacks (name : List ℕ) (xs : List (Key × Value)) : Type 0 where
  pub entry : None ≡ entry_at name (entries_of xs)
  pub rest : entries_of xs ≡ entries_without name (entries_of xs)

lacks_from : (name : List ℕ) (xs : List (Key × Value)) (i : ℕ) → position_from (has_name name) i xs ≡ None → Lacks name xs
lacks_from name [] i e = record { entry = refl; rest = refl }
lacks_from name (x ∷ xs) i e =
    let both = elim (bytes_eq x.0.name.text name) as (λ b. cond b (Some i) (position_from (has_name name) (i + 1) xs) ≡ None → (None ≡ cond b (Some (seen x)) (entry_at name (entries_of xs)))
    × (entries_of (x ∷ xs) ≡ cond b (entries_of xs) (data.entry x.0 (value_view x.1).span (value_view x.1).content (entries_without name (entries_of xs))))) [
      | true ↦ λ bad. cc
      | false ↦ λ e. let more = lacks_from name xs (i + 1) e in (more.entry, ap (data.entry x.0 (value_view x.1).span (value_view x.1).content) more.rest)
    ] e in
    record { entry = both.0; rest = both.1 }

-- no entry of a name
pub lacks-position : (name : List ℕ) (xs : List (Key × Value)) → position (has_name name) xs ≡ None → Lacks name xs
lacks-position name xs e = lacks_from name xs 0 (sym (position_from-zero (has_name name) xs) ∙ e)

pub record Finds (name : List ℕ) (xs : List (Key × Value)) (i : ℕ) (d : Key × Value) : Type 0 where
  pub entry : Some (seen (get_or xs i d)) ≡ entry_at name (entries_of xs)
  pub rest : entries_of (remove xs i) ≡ entries_without name (entries_of xs)

-- the first entry of a name
pub finds-position : (name : List ℕ) (xs : List (Key × Value)) (i : ℕ) (d : Key × Value) → position (has_name name) xs ≡ Some i → Finds name xs i d
finds-position name xs i d found =
    let first = position-Some (has_name name) xs i d found in
    record { entry = entry_at-place name xs i d first.0 first.1 first.2; rest = without-place name xs i d first.0 first.1 first.2 }
