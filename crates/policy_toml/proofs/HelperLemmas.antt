-- Keys that are read one after another.
use Rattle.std.proofs.Common.{◌≡◌, ℕ, Bool, true, false, cond, List, [], ◌∷◌, ◌++◌, append-nil, Option, Some, None, Ok, Err, refl, sym, subst, ap, ◌∙◌}
use Rattle.std.specs.Prelude.{option_map}
use Rattle.std.specs.Str.{bytes_eq}
use Rattle.toml_subset.specs.Data.{Entries, Toml, no_entry, entry}
use Rattle.toml_subset.specs.declared.string.Key.{Key}
use Rattle.policy_toml.specs.HelperState.{HelperState, without_key, with_faults, without_faults, read_at, given_value, faults_of, needed_value}
use Rattle.toml_value.specs.Lookup.{value_at}
use Rattle.toml_value.specs.Removal.{entry_at}
use Rattle.policy_toml.proofs.ShapedLemmas.{tells}
use Rattle.toml_subset.specs.shapes.Shaped.{ShapeReading, TellsFaults, IsToldBy}
use Rattle.toml_subset.specs.shapes.Shapes.{ShapeFault, fault_alone, missing}
use Rattle.toml_subset.specs.declared.shapes.shape.DeserError.{DeserError}

-- the value at a key is that of the entry
pub value_at-entry_at : (name : List ℕ) (entries : Entries) → value_at name entries ≡ option_map (λ p. p.1) (entry_at name entries)
value_at-entry_at name no_entry = refl
value_at-entry_at name (entry key span content more) =
    elim (bytes_eq key.name.text name) as (λ b. cond b (Some (record { content = content; span = span })) (value_at name more)
    ≡ option_map (λ (p : Key × Toml). p.1) (cond b (Some (key, record { content = content; span = span })) (entry_at name more))) [
      | true ↦ refl
      | false ↦ value_at-entry_at name more
    ]

pub read_at-taken : {A : Type 0} (name : List ℕ) (reads : Toml → ShapeReading A) (state : HelperState) (key : Key) (value : Toml) → Some (key, value) ≡ entry_at name state.left
    → read_at name reads state ≡ Some (reads value)
read_at-taken name reads state key value e =
    ap (option_map reads) (value_at-entry_at name state.left ∙ ap (option_map (λ p. p.1)) (sym e))

pub read_at-missing : {A : Type 0} (name : List ℕ) (reads : Toml → ShapeReading A) (state : HelperState) → None ≡ entry_at name state.left → read_at name reads state ≡ None
read_at-missing name reads state e =
    ap (option_map reads) (value_at-entry_at name state.left ∙ ap (option_map (λ p. p.1)) (sym e))

-- a state without further faults
pub with_no_faults : (state : HelperState) → with_faults [] state ≡ state
with_no_faults state = ap (λ faults. record state { faults = faults }) (append-nil state.faults)

-- after a key whose value was read, or that was not there
pub after_nothing : {A : Type 0} (name : List ℕ) (read : Option (ShapeReading A)) (state : HelperState) → faults_of read ≡ [] → without_key name state ≡ with_faults (faults_of read) (without_key name state)
after_nothing name read state none = sym (ap (λ faults. with_faults faults (without_key name state)) none ∙ with_no_faults (without_key name state))

-- after a key whose value was refused
pub after_faults : {A : Type 0} (name : List ℕ) (read : Option (ShapeReading A)) (state after : HelperState) (faults all : List ShapeFault) → faults_of read ≡ faults
    → after ≡ without_key name state → all ≡ after.faults ++ faults → record after { faults = all } ≡ with_faults (faults_of read) (without_key name state)
after_faults name read state after faults all told gone appended =
    ap (λ fs. record after { faults = fs }) appended ∙ ap (with_faults faults) gone ∙ sym (ap (λ fs. with_faults fs (without_key name state)) told)

-- a key that has to be there and is refused
pub needed-refused : {A : Type 0} (name : List ℕ) (read : Option (ShapeReading A)) (state after : HelperState) (faults : List ShapeFault) (error : DeserError)
    → read ≡ Some (Err faults) → after ≡ without_key name state → IsToldBy error (after.faults ++ faults) → TellsFaults (needed_value name state read) error
needed-refused {A} name read state after faults error refused gone told =
    subst (λ r. TellsFaults (needed_value name state r) error) (sym refused)
    (subst (λ fs. TellsFaults {A = A} (Err (fs ++ faults)) error) (ap (λ s. s.faults) gone) (tells A (after.faults ++ faults) error told))

pub needed-missing : {A : Type 0} (name : List ℕ) (read : Option (ShapeReading A)) (state after : HelperState) (faults : List ShapeFault) (error : DeserError)
    → read ≡ None → after ≡ without_key name state → faults ≡ fault_alone (missing name) after.span → IsToldBy error (after.faults ++ faults) → TellsFaults (needed_value name state read) error
needed-missing {A} name read state after faults error none gone alone told =
    subst (λ r. TellsFaults (needed_value name state r) error) (sym none)
    (subst (λ s. TellsFaults {A = A} (Err (s.faults ++ fault_alone (missing name) s.span)) error) gone
    (subst (λ fs. TellsFaults {A = A} (Err (after.faults ++ fs)) error) alone (tells A (after.faults ++ faults) error told)))
