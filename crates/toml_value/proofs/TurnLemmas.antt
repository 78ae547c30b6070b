-- Turns as the program takes them.
use Rattle.std.proofs.Common.{◌≡◌, ℕ, ◌≤◌, List, [], ◌∷◌, ◌++◌, map, Option, Some, None, Result, Ok, Err, refl, ap, sym, subst, ◌∙◌}
use Rattle.std.proofs.lemmas.List.{map-append}
use Rattle.toml_subset.specs.Answer.{TomlReading, AnswersToml}
use Rattle.toml_subset.specs.Data as «data»
use Rattle.toml_subset.specs.Data.{Items, Toml}
use Rattle.toml_subset.specs.Reading.{ValueFound}
use Rattle.toml_subset.specs.Tables.{Branches}
use Rattle.toml_subset.specs.declared.error.SyntaxError.{SyntaxError}
use Rattle.toml_subset.specs.declared.error.TomlError.{TomlError}
use Rattle.toml_subset.specs.declared.error.TomlError.TheVariants.{Syntax, Memory}
use Rattle.toml_subset.specs.declared.string.Key.{Key}
use Rattle.toml_subset.specs.frames.Frames.{with_last, read, waits}
use Rattle.toml_subset.proofs.frames.Stacks.{IsReading}
use Rattle.toml_subset.proofs.frames.Turns.{turn_same, turn_from}
use Rattle.toml_value.specs.Lookup.{with_item}
use Rattle.toml_value.specs.StackViews.{value_found, frame_view, turn_view, TakesTurn}
use Rattle.toml_value.specs.TreeViews.{tree_view, IsAwaited}
use Rattle.toml_value.specs.declared.tree.tables.Awaiting.{Awaiting}
use Rattle.toml_value.specs.declared.value.Value.{Value}
use Rattle.toml_value.specs.declared.values.Frame.{Frame}
use Rattle.toml_value.specs.declared.values.ValueStep.{ValueStep}
use Rattle.toml_value.specs.declared.values.ValueStep.TheVariants as turn
use Rattle.toml_value.specs.declared.values.ValueStep.TheVariants.{Waits}

pub with_item-last : (items : Items) (x : Toml) (next : ℕ) → with_item items x ≡ with_last items (x.span, x.content, next)
with_item-last data.no_item x next = refl
with_item-last (data.item span content more) x next = ap (data.item span content) (with_item-last more x next)

pub takes_same : (text : List ℕ) (from later above : ℕ) (wanted other : TomlReading ValueFound) (result : Result ValueStep TomlError) → from ≤ later → other ≡ wanted
    → TakesTurn text later above wanted result → TakesTurn text from above other result
takes_same text from later above wanted other (Ok t) before same is =
    turn_same text from above wanted other (turn_view t) same (turn_from text from later above wanted (turn_view t) before is)
takes_same text from later above wanted other (Err (Syntax fault)) before same is = same ∙ is
takes_same text from later above wanted other (Err Memory) before same is = is

-- a key that may be put
pub record IsFree (fault : Option SyntaxError) (keys : List Key) (tree : Branches) (a : Awaiting) : Type 0 where
  pub free : fault ≡ None
  pub keys_are : a.keys ≡ keys
  pub tree_is : tree_view a.tree ≡ tree

pub awaited : (fault : Option SyntaxError) (keys : List Key) (tree : Branches) (a : Awaiting) → IsAwaited fault keys tree (Ok a) → IsFree fault keys tree a
awaited None keys tree a is = record { free = refl; keys_are = is.0; tree_is = is.1 }
awaited (Some fault) keys tree a is = absurd is

-- a refused turn ends the reading
pub refused_on : (text : List ℕ) (from above : ℕ) (wanted whole : TomlReading ValueFound) (error : TomlError) → ((fault : SyntaxError) → wanted ≡ Err fault → whole ≡ Err fault)
    → TakesTurn text from above wanted (Err error) → AnswersToml value_found whole (Err error)
refused_on text from above wanted whole (Syntax fault) on is = on fault is
refused_on text from above wanted whole Memory on is = is

-- the stack of the program before a value, and behind one
pub waiting : (text : List ℕ) (above i : ℕ) (stack : List Frame) (t : ValueStep) (frame : Frame) (place : ℕ) → t ≡ Waits frame place
    → IsReading text above i (map frame_view stack) (turn_view t) → IsReading text above i (map frame_view stack) (waits (frame_view frame) place)
waiting text above i stack t frame place e is = subst (λ x. IsReading text above i (map frame_view stack) (turn_view x)) e is

pub pushed : (text : List ℕ) (above i : ℕ) (stack new : List Frame) (frame : Frame) (t : ValueStep) → new ≡ stack ++ frame ∷ []
    → IsReading text above i (map frame_view stack ++ frame_view frame ∷ []) (turn_view t) → IsReading text above i (map frame_view new) (turn_view t)
pushed text above i stack new frame t e is =
    subst (λ frames. IsReading text above i frames (turn_view t)) (sym (ap (map frame_view) e ∙ map-append frame_view stack (frame ∷ []))) is

pub popped : (text : List ℕ) (above i : ℕ) (stack rest : List Frame) (frame : Frame) (t : ValueStep) (value : Value) (next : ℕ) → stack ≡ rest ++ frame ∷ [] → t ≡ turn.Read value next
    → IsReading text above i (map frame_view stack) (turn_view t) → IsReading text above i (map frame_view rest ++ frame_view frame ∷ []) (read (value_found (value, next)))
popped text above i stack rest frame t value next e same is =
    subst (λ frames. IsReading text above i frames (read (value_found (value, next)))) (ap (map frame_view) e ∙ map-append frame_view rest (frame ∷ []))
    (subst (λ x. IsReading text above i (map frame_view stack) (turn_view x)) same is)
