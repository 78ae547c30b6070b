-- A table that is read key by key: what is left of it, where it is there, and what was wrong so far.
use Rattle.std.specs.Prelude.{ℕ, Bool, ◌⊎◌, if◌then◌else◌, List, [], ◌∷◌, ◌++◌, Option, Some, None, Ok, Err, option_map}
use Rattle.std.proofs.Common.{inl, inr}
use denote.MutBor.{MutBor}
use Rattle.deny_text.specs.declared.span.Span.{Span}
use Rattle.toml_subset.specs.Data.{Entries, Toml}
use Rattle.toml_subset.specs.shapes.Kinds.{kind_word}
use Rattle.toml_value.specs.Lookup.{value_at}
use Rattle.toml_value.specs.Taken.{or_wanted, as_table}
use Rattle.toml_value.specs.Removal.{entries_without, names_in}
use Rattle.toml_subset.specs.shapes.Shaped.{ShapeReading, shaped_map}
use Rattle.toml_subset.specs.shapes.Shapes.{ShapeFault, fault_alone, missing, unexpected_keys}
use Rattle.toml_value.specs.Views.{value_view, entries_view}
use Rattle.policy_toml.specs.declared.helper.TableHelper.{TableHelper}
use Rattle.toml_subset.specs.declared.shapes.shape.ValueKind.TheVariants as kind
use Rattle.toml_value.specs.declared.value.Value.{Value}

pub record HelperState : Type 0 where
  pub left : Entries
  pub span : Span
  -- in the order in which they were collected
  pub faults : List ShapeFault

abbrev pub state_of : TableHelper → HelperState
state_of helper = record { left = entries_view helper.left; span = helper.span; faults = helper.faults }

-- a table of which nothing was read yet
abbrev pub opened_table : Toml → ShapeReading HelperState
opened_table value =
    shaped_map (λ entries. record { left = entries; span = value.span; faults = [] })
    (or_wanted (kind_word kind.Table) value (as_table value.content))

-- the key taken out
abbrev pub without_key : List ℕ → HelperState → HelperState
without_key name state = record state { left = entries_without name state.left }

-- further faults, behind the others
abbrev pub with_faults : List ShapeFault → HelperState → HelperState
with_faults faults state = record state { faults = state.faults ++ faults }

-- the faults handed out
abbrev pub without_faults : HelperState → HelperState
without_faults state = record state { faults = [] }

-- what a type makes of the value at a key, where the key is there
abbrev pub read_at : {A : Type 0} → List ℕ → (Toml → ShapeReading A) → HelperState → Option (ShapeReading A)
read_at name reads state = option_map reads (value_at name state.left)

-- the value that was read
abbrev pub given_value : {A : Type 0} → Option (ShapeReading A) → Option A
given_value None = None
given_value (Some (Ok x)) = Some x
given_value (Some (Err faults)) = None

-- what was wrong with it
abbrev pub faults_of : {A : Type 0} → Option (ShapeReading A) → List ShapeFault
faults_of None = []
faults_of (Some (Ok x)) = []
faults_of (Some (Err faults)) = faults

-- the value, or the faults so far and then what is wrong with it, or that it is missing
abbrev pub needed_value : {A : Type 0} → List ℕ → HelperState → Option (ShapeReading A) → ShapeReading A
needed_value name state None = Err (state.faults ++ fault_alone (missing name) state.span)
needed_value name state (Some (Ok x)) = Ok x
needed_value name state (Some (Err faults)) = Err (state.faults ++ faults)

-- a key that may be there: its value, and the table behind it, where what was wrong with the value is collected
abbrev pub optional_of : {A : Type 0} → List ℕ → (Toml → ShapeReading A) → HelperState → Option A
optional_of name reads state = given_value (read_at name reads state)

abbrev pub after_optional : {A : Type 0} → List ℕ → (Toml → ShapeReading A) → HelperState → HelperState
after_optional name reads state = with_faults (faults_of (read_at name reads state)) (without_key name state)

-- a key that has to be there
abbrev pub required_of : {A : Type 0} → List ℕ → (Toml → ShapeReading A) → HelperState → ShapeReading A
required_of name reads state = needed_value name state (read_at name reads state)

-- the keys that nothing asked for are one fault of the table
abbrev pub unexpected_faults : List (List ℕ) → Span → List ShapeFault
unexpected_faults [] span = []
unexpected_faults (name ∷ names) span = fault_alone (unexpected_keys (name ∷ names)) span

-- all faults of a table whose left keys go back, or do not
abbrev pub faults_at_end : Bool → HelperState → List ShapeFault
faults_at_end goes_back state =
    if goes_back then state.faults else state.faults ++ unexpected_faults (names_in state.left) state.span

-- what is behind a reference that may be there, at the end of a call
abbrev pub target_at_exit : Unit {0} ⊎ ((MutBor Value × Unit {0}) ⊎ ⊥) → Option Toml
target_at_exit (inl none) = None
target_at_exit (inr (inl some)) = Some (value_view some.0.now)
target_at_exit (inr (inr never)) = None
