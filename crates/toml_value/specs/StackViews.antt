-- What the program holds while it reads a value.
use Rattle.std.specs.Prelude.{◌≡◌, ℕ, List, Result, Ok, Err, ⊤}
use Rattle.toml_subset.specs.Answer.{TomlReading}
use Rattle.toml_subset.specs.Reading.{ValueFound}
use Rattle.toml_subset.specs.declared.error.TomlError.{TomlError}
use Rattle.toml_subset.specs.declared.error.TomlError.TheVariants.{Syntax, Memory}
use Rattle.toml_subset.specs.frames.Frames as «frames»
use Rattle.toml_subset.specs.frames.Frames.{IsValueStep}
use Rattle.toml_value.specs.TreeViews.{tree_view}
use Rattle.toml_value.specs.Views.{value_view, values_view}
use Rattle.toml_value.specs.declared.value.Value.{Value}
use Rattle.toml_value.specs.declared.values.Frame.{Frame}
use Rattle.toml_value.specs.declared.values.Frame.TheVariants.{Array, Table}
use Rattle.toml_value.specs.declared.values.ValueStep.{ValueStep}
use Rattle.toml_value.specs.declared.values.ValueStep.TheVariants as turn

-- a value, and the place behind it
abbrev pub value_found : Value × ℕ → ValueFound
value_found found = ((value_view found.0).span, (value_view found.0).content, found.1)

abbrev pub frame_view : Frame → frames.Frame
frame_view (Array at items) = frames.in_array at.place at.above (values_view items)
frame_view (Table at awaiting) = frames.in_table at.place at.above (tree_view awaiting.tree) awaiting.keys

abbrev pub turn_view : ValueStep → frames.ValueStep
turn_view (turn.Read value next) = frames.read (value_found (value, next))
turn_view (turn.Waits frame place) = frames.waits (frame_view frame) place

-- The program takes a turn that gives what is wanted, or answers the fault that is wanted. Memory may end anywhere.
abbrev pub TakesTurn : List ℕ → ℕ → ℕ → TomlReading ValueFound → Result ValueStep TomlError → Type 0
TakesTurn text from above wanted (Ok t) = IsValueStep text from above wanted (turn_view t)
TakesTurn text from above wanted (Err (Syntax fault)) = wanted ≡ Err fault
TakesTurn text from above wanted (Err Memory) = ⊤
