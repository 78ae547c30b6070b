-- Which turns reading takes.
use Rattle.std.proofs.Common.{◌≡◌, ℕ, ◌+◌, ◌<◌, ◌≤◌, true, false, eqb, ◌||◌, List, length, Some, None, Ok, Err, refl, ap, ◌∙◌, arith}
use Rattle.std.proofs.lemmas.Bool.Decides.{nat_tests}
use Rattle.toml_subset.specs.Answer.{TomlReading, then_read, fault_or}
use Rattle.toml_subset.specs.Bytes.{open_bracket, open_brace}
use Rattle.toml_subset.specs.Data as «data»
use Rattle.toml_subset.specs.Data.{Items, depth_of, depth_limit}
use Rattle.toml_subset.specs.Places.{stands}
use Rattle.toml_subset.specs.Reading.{ValueFound, read_scalar, value_at}
use Rattle.toml_subset.specs.StringReading.{KeysFound, read_left}
use Rattle.toml_subset.specs.TableFaults.{put_fault}
use Rattle.toml_subset.specs.Tables.{Branches, unbranched, closed, branches_with_value, entries_of}
use Rattle.toml_subset.specs.declared.error.SyntaxError.{SyntaxError}
use Rattle.toml_subset.specs.declared.number.Number.TheVariants.{Integer, Decimal}
use Rattle.toml_subset.specs.declared.string.Key.{Key}
use Rattle.toml_subset.proofs.Law.Forward.{keys_go}
use Rattle.toml_subset.proofs.Law.Texts.{left_sound}
use Rattle.toml_subset.specs.declared.frames.between.Next.{Next}
use Rattle.toml_subset.specs.declared.frames.between.Next.TheVariants.{Closed, Further}
use Rattle.toml_subset.specs.declared.frames.scalar.Scalar.{Scalar}
use Rattle.toml_subset.specs.declared.frames.scalar.Scalar.TheVariants.{String, Number, Boolean}
use Rattle.toml_subset.specs.frames.Between.{next_place, item_place, behind_item, entry_place, behind_entry}
use Rattle.toml_subset.specs.frames.Frames.{in_array, in_table, IsShallowFrame, with_last, on_with, ValueStep, read, waits, turn_answer, IsValueStep, array_turn, array_on, table_turn, entry_on, table_on}
use Rattle.toml_subset.specs.frames.Scalars.{scalar_content}
use Rattle.toml_subset.proofs.frames.Goings.{array_goes_on, table_goes_on, array_begins, table_begins, value_scalar, items_shallow, found_goes}

-- an answer to another question with the same answer
pub turn_same : (text : List ℕ) (from above : ℕ) (wanted other : TomlReading ValueFound) (turn : ValueStep) → other ≡ wanted → IsValueStep text from above wanted turn → IsValueStep text from above other turn
turn_same text from above wanted other turn same is = record { answers = same ∙ is.answers; shallow = is.shallow; goes = is.goes; within = is.within }

pub turn_from : (text : List ℕ) (from later above : ℕ) (wanted : TomlReading ValueFound) (turn : ValueStep) → from ≤ later → IsValueStep text later above wanted turn → IsValueStep text from above wanted turn
turn_from text from later above wanted turn before is =
    let goes = is.goes in record { answers = is.answers; shallow = is.shallow; goes = omega arith; within = is.within }

scalar_depth : (scalar : Scalar) → depth_of (scalar_content scalar) ≡ 0
scalar_depth (String s) = refl
scalar_depth (Number (Integer z)) = refl
scalar_depth (Number (Decimal z)) = refl
scalar_depth (Boolean b) = refl

pub scalar_turn : (text : List ℕ) (above i : ℕ) (scalar : Scalar) (v : ValueFound) → above ≤ depth_limit → (stands text i open_bracket || stands text i open_brace) ≡ false
    → read_scalar text i ≡ Ok v → v.1 ≡ scalar_content scalar → IsValueStep text (i + 1) above (value_at text above i) (read v)
scalar_turn text above i scalar v low none is kind =
    let value = value_scalar text above i none ∙ is in
    let goes = found_goes text above i v low value in
    let flat = ap depth_of kind ∙ scalar_depth scalar in
    let ahead = goes.0 in
    record { answers = value; shallow = omega arith; goes = omega arith; within = goes.1 }

-- an array that goes on at a place
pub array_turn_is : (text : List ℕ) (start above : ℕ) (items : Items) (next : Next) → above + depth_of (data.array items) ≤ depth_limit → next_place next ≤ length text
    → IsValueStep text (next_place next) above (array_on text start above items next) (array_turn start above items next)
array_turn_is text start above items (Closed next) low inside = record { answers = refl; shallow = low; goes = omega arith; within = inside }
array_turn_is text start above items (Further i) low inside = record { answers = refl; shallow = (refl, low); goes = omega arith; within = inside }

-- an inline table that is closed
pub table_turn_is : (text : List ℕ) (start above : ℕ) (branches : Branches) (next : ℕ) → above + depth_of (data.table (entries_of branches)) ≤ depth_limit → next ≤ length text
    → IsValueStep text next above (table_on text start above branches (Closed next)) (table_turn start branches next)
table_turn_is text start above branches next low inside = record { answers = refl; shallow = low; goes = omega arith; within = inside }

-- an inline table whose next key was read
pub entry_turn_is : (text : List ℕ) (start above : ℕ) (branches : Branches) (i : ℕ) (left : KeysFound) → above + depth_of (data.table (entries_of branches)) ≤ depth_limit
    → read_left text i ≡ Ok left → put_fault left.0 branches (above + 1) ≡ None → left.1 ≤ length text
    → IsValueStep text i above (table_on text start above branches (Further i)) (waits (in_table start above branches left.0) left.1)
entry_turn_is text start above branches i left low is free inside =
    let at = left_sound text i left is in
    let keys = keys_go text i left.0 at.0 at.1 in
    let place = at.3 in
    let answer = turn_answer text (waits (in_table start above branches left.0) left.1) in
    record {
      answers = ap (then_read (entry_on text start above branches)) is ∙ ap (λ fault. fault_or fault answer) free;
      shallow = (refl, (low, free));
      goes = omega arith;
      within = inside;
    }

pub entry_refused : (text : List ℕ) (start above : ℕ) (branches : Branches) (i : ℕ) (left : KeysFound) (fault : SyntaxError)
    → read_left text i ≡ Ok left → put_fault left.0 branches (above + 1) ≡ Some fault → table_on text start above branches (Further i) ≡ Err fault
entry_refused text start above branches i left fault is found =
    let answer = turn_answer text (waits (in_table start above branches left.0) left.1) in
    ap (then_read (entry_on text start above branches)) is ∙ ap (λ f. fault_or f answer) found

pub entry_unread : (text : List ℕ) (start above : ℕ) (branches : Branches) (i : ℕ) (fault : SyntaxError)
    → read_left text i ≡ Err fault → table_on text start above branches (Further i) ≡ Err fault
entry_unread text start above branches i fault is = ap (then_read (entry_on text start above branches)) is

-- an array from its opening on
pub array_opens : (text : List ℕ) (above i : ℕ) (next : Next) → (stands text i open_bracket || stands text i open_brace) ≡ true → above < depth_limit → stands text i open_bracket ≡ true
    → item_place text (i + 1) ≡ Ok next → i + 1 ≤ next_place next → next_place next ≤ length text
    → IsValueStep text (i + 1) above (value_at text above i) (array_turn i above data.no_item next)
array_opens text above i next opens low array is goes inside =
    let shallow : eqb above depth_limit ≡ false = grind (arith, nat_tests) in
    let empty : above + depth_of (data.array data.no_item) ≤ depth_limit = omega arith in
    turn_same text (i + 1) above (array_on text i above data.no_item next) (value_at text above i) (array_turn i above data.no_item next)
    (array_begins text above i opens (omega arith) array shallow ∙ ap (then_read (array_on text i above data.no_item)) is)
    (turn_from text (i + 1) (next_place next) above _ _ goes (array_turn_is text i above data.no_item next empty inside))

pub table_opens : (text : List ℕ) (above i : ℕ) → (stands text i open_bracket || stands text i open_brace) ≡ true → above < depth_limit → stands text i open_bracket ≡ false
    → value_at text above i ≡ table_on text i above unbranched (entry_place text (i + 1))
table_opens text above i opens low table =
    let shallow : eqb above depth_limit ≡ false = grind (arith, nat_tests) in
    table_begins text above i opens (omega arith) table shallow

-- an array behind a further item
pub array_behind : (text : List ℕ) (start above : ℕ) (items : Items) (v : ValueFound) (next : Next) → IsShallowFrame (in_array start above items) → above + 1 + depth_of v.1 ≤ depth_limit
    → behind_item text v.2 ≡ Ok next → v.2 + 1 ≤ next_place next → next_place next ≤ length text
    → IsValueStep text (v.2 + 1) above (on_with text (in_array start above items) v) (array_turn start above (with_last items v) next)
array_behind text start above items v next low room is goes inside =
    let more = items_shallow start above items v low room in
    turn_same text (v.2 + 1) above (array_on text start above (with_last items v) next) (on_with text (in_array start above items) v) (array_turn start above (with_last items v) next)
    (array_goes_on text start above items v (omega arith) ∙ ap (then_read (array_on text start above (with_last items v))) is)
    (turn_from text (v.2 + 1) (next_place next) above _ _ goes (array_turn_is text start above (with_last items v) next more inside))

pub array_stops : (text : List ℕ) (start above : ℕ) (items : Items) (v : ValueFound) (fault : SyntaxError) → above + 1 + depth_of v.1 ≤ depth_limit
    → behind_item text v.2 ≡ Err fault → on_with text (in_array start above items) v ≡ Err fault
array_stops text start above items v fault room is =
    array_goes_on text start above items v (omega arith) ∙ ap (then_read (array_on text start above (with_last items v))) is

-- an inline table behind a further entry
pub table_behind : (text : List ℕ) (start above : ℕ) (branches : Branches) (keys : List Key) (v : ValueFound) (new : Branches) (next : Next)
    → branches_with_value keys (closed v.0 v.1) branches ≡ Some new → above + depth_of (data.table (entries_of new)) ≤ depth_limit → behind_entry text v.2 ≡ Ok next
    → on_with text (in_table start above branches keys) v ≡ table_on text start above new next
table_behind text start above branches keys v new next made low is =
    table_goes_on text start above branches keys v new made (omega arith) ∙ ap (then_read (table_on text start above new)) is
