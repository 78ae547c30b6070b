-- Keys that are taken out of a table.
use Rattle.std.proofs.Common.{◌≡◌, ℕ, Bool, T, true, false, cond, is_some, List, Option, Some, None, refl, sym, ap, subst, ◌∙◌}
use Rattle.std.specs.Prelude.{option_map}
use Rattle.std.specs.Str.{bytes_eq}
use Rattle.std.proofs.lemmas.Slice.Eq.{bytes_eq-Decides}
use Rattle.toml_subset.specs.Data.{Entries, Toml, no_entry, entry}
use Rattle.toml_subset.specs.declared.string.Key.{Key}
use Rattle.policy_toml.specs.HelperState.{HelperState, read_at}
use Rattle.toml_subset.specs.shapes.Shaped.{ShapeReading}
use Rattle.toml_value.specs.Lookup.{value_at}
use Rattle.toml_value.specs.Removal.{entry_at, entries_without}

-- the value at a key is that of the entry
pub value_at_of_entry : (name : List ℕ) (entries : Entries) → value_at name entries ≡ option_map (λ p. p.1) (entry_at name entries)
value_at_of_entry name no_entry = refl
value_at_of_entry name (entry key span content more) =
    elim (bytes_eq key.name.text name) as (λ b. cond b (Some (record { content = content; span = span })) (value_at name more)
    ≡ option_map (λ (p : Key × Toml). p.1) (cond b (Some (key, record { content = content; span = span })) (entry_at name more))) [
      | true ↦ refl
      | false ↦ value_at_of_entry name more
    ]

-- what is read at a key is read of the entry that is taken out
pub read_of_entry : {A : Type 0} (name : List ℕ) (reads : Toml → ShapeReading A) (state : HelperState) {taken : Option (Key × Toml)} → taken ≡ entry_at name state.left
    → read_at name reads state ≡ option_map reads (option_map (λ p. p.1) taken)
read_of_entry name reads state is = ap (option_map reads) (value_at_of_entry name state.left ∙ ap (option_map (λ (p : Key × Toml). p.1)) (sym is))

-- nothing is taken out where the key is not there
pub without_absent : (name : List ℕ) (entries : Entries) → None ≡ value_at name entries → entries_without name entries ≡ entries
without_absent name no_entry none = refl
without_absent name (entry key span content more) none =
    elim (bytes_eq key.name.text name) as (λ b. None ≡ cond b (Some (record { content = content; span = span })) (value_at name more)
    → cond b more (entry key span content (entries_without name more)) ≡ entry key span content more) [
      | true ↦ λ bad. absurd (subst T (sym (ap is_some bad)) tt)
      | false ↦ λ none. ap (entry key span content) (without_absent name more none)
    ] none

-- another key is found as before
other : {A : Type 0} (name gone : List ℕ) (key : Key) (found : A) (below taken : Option A) (b : Bool) → bytes_eq key.name.text gone ≡ b
    → bytes_eq gone name ≡ false → taken ≡ below
    → cond b below (cond (bytes_eq key.name.text name) (Some found) taken) ≡ cond (bytes_eq key.name.text name) (Some found) below
other name gone key found below taken true is apart same =
    let miss : bytes_eq key.name.text name ≡ false = ap (λ n. bytes_eq n name) ((bytes_eq-Decides key.name.text gone).0 is) ∙ apart in
    sym (ap (λ b. cond b (Some found) below) miss)
other name gone key found below taken false is apart same = ap (cond (bytes_eq key.name.text name) (Some found)) same

pub value_at_without : (name gone : List ℕ) (entries : Entries) → bytes_eq gone name ≡ false → value_at name (entries_without gone entries) ≡ value_at name entries
value_at_without name gone no_entry apart = refl
value_at_without name gone (entry key span content more) apart =
    elim (bytes_eq key.name.text gone) as (λ b. bytes_eq key.name.text gone ≡ b
    → value_at name (cond b more (entry key span content (entries_without gone more))) ≡ value_at name (entry key span content more)) [
      | true ↦ λ is. other name gone key (record { content = content; span = span }) (value_at name more) (value_at name more) true is apart refl
      | false ↦ λ is. ap (cond (bytes_eq key.name.text name) (Some (record { content = content; span = span }))) (value_at_without name gone more apart)
    ] refl

pub entry_at_without : (name gone : List ℕ) (entries : Entries) → bytes_eq gone name ≡ false → entry_at name (entries_without gone entries) ≡ entry_at name entries
entry_at_without name gone no_entry apart = refl
entry_at_without name gone (entry key span content more) apart =
    elim (bytes_eq key.name.text gone) as (λ b. bytes_eq key.name.text gone ≡ b
    → entry_at name (cond b more (entry key span content (entries_without gone more))) ≡ entry_at name (entry key span content more)) [
      | true ↦ λ is. other name gone key (key, record { content = content; span = span }) (entry_at name more) (entry_at name more) true is apart refl
      | false ↦ λ is. ap (cond (bytes_eq key.name.text name) (Some (key, record { content = content; span = span }))) (entry_at_without name gone more apart)
    ] refl
