-- What is open while a value is read, and what reading still owes of it.
use Rattle.std.specs.Prelude.{◌≡◌, ℕ, ◌+◌, ◌-◌, ◌≤◌, List, [], ◌∷◌, None, Ok, length}
use Rattle.toml_subset.specs.Answer.{TomlReading, then_read, fault_or}
use Rattle.toml_subset.specs.Data as «data»
use Rattle.toml_subset.specs.Data.{Items, depth_of, depth_limit}
use Rattle.toml_subset.specs.Places.{from_to}
use Rattle.toml_subset.specs.Reading.{ValueFound, ItemsFound, EntriesFound, array_items_behind, entry_put, array_read}
use Rattle.toml_subset.specs.Reading.{table_read, read_items, read_entries, call_bound, value_at}
use Rattle.toml_subset.specs.StringReading.{KeysFound, read_left}
use Rattle.toml_subset.specs.TableFaults.{put_fault}
use Rattle.toml_subset.specs.Tables.{Branches, entries_of}
use Rattle.toml_subset.specs.declared.string.Key.{Key}
use Rattle.toml_subset.specs.declared.frames.between.Next.{Next}
use Rattle.toml_subset.specs.declared.frames.between.Next.TheVariants.{Closed, Further}

-- An array or an inline table that a value is being read for: the place of its opening, how many tables and arrays are
-- around it, and what was read of it. An inline table has a key whose `=` was read.
pub data Frame : Type 0 where
  in_array : ℕ → ℕ → Items → Frame
  in_table : ℕ → ℕ → Branches → List Key → Frame

-- how many tables and arrays are around it
abbrev pub depth_around : Frame → ℕ
depth_around (in_array start above items) = above
depth_around (in_table start above branches keys) = above

-- how many are around its value, those of a dotted key too
abbrev pub depth_within : Frame → ℕ
depth_within (in_array start above items) = above + 1
depth_within (in_table start above branches keys) = above + 1 + (length keys - 1)

-- what was read of it is not too deep, and the table rules let its key be put
abbrev pub IsShallowFrame : Frame → Type 0
IsShallowFrame (in_array start above items) = above + depth_of (data.array items) ≤ depth_limit
IsShallowFrame (in_table start above branches keys) =
    (above + depth_of (data.table (entries_of branches)) ≤ depth_limit) × (put_fault keys branches (above + 1) ≡ None)

-- the rest of an array, and of an inline table
abbrev pub items_at : List ℕ → ℕ → ℕ → TomlReading ItemsFound
items_at text = read_items (call_bound text) text

abbrev pub entries_at : List ℕ → ℕ → Branches → ℕ → TomlReading EntriesFound
entries_at text = read_entries (call_bound text) text

-- items before others
abbrev pub joined_items : Items → Items → Items
joined_items data.no_item more = more
joined_items (data.item span content rest) more = data.item span content (joined_items rest more)

-- a further item at the end
abbrev pub with_last : Items → ValueFound → Items
with_last items v = joined_items items (data.item v.0 v.1 data.no_item)

abbrev pub joined_found : Items → ItemsFound → TomlReading ItemsFound
joined_found items r = Ok (joined_items items r.0, r.1)

-- what its value leads to: the array or the table, read to its end
abbrev pub on_with : List ℕ → Frame → ValueFound → TomlReading ValueFound
on_with text (in_array start above items) v =
    then_read (array_read start)
    (then_read (joined_found items) (array_items_behind (items_at text (above + 1)) text v))
on_with text (in_table start above branches keys) v =
    then_read (table_read start) (entry_put (entries_at text (above + 1)) text keys branches v)

-- what a value leads to in all that is open around it, the outermost first
abbrev pub resume : List ℕ → List Frame → TomlReading ValueFound → TomlReading ValueFound
resume text [] answer = answer
resume text (frame ∷ more) answer = then_read (on_with text frame) (resume text more answer)

-- they are in one another, a value in the last of them
abbrev pub AreNested : ℕ → List Frame → ℕ → Type 0
AreNested above [] last = above ≡ last
AreNested above (frame ∷ more) last =
    (depth_around frame ≡ above) × IsShallowFrame frame × AreNested (depth_within frame) more last

-- a value that was read, or a frame whose value is at a place
pub data ValueStep : Type 0 where
  read : ValueFound → ValueStep
  waits : Frame → ℕ → ValueStep

abbrev pub turn_place : ValueStep → ℕ
turn_place (read v) = v.2
turn_place (waits frame i) = i

abbrev pub turn_answer : List ℕ → ValueStep → TomlReading ValueFound
turn_answer text (read v) = Ok v
turn_answer text (waits frame i) = then_read (on_with text frame) (value_at text (depth_within frame) i)

abbrev pub IsShallowTurn : ℕ → ValueStep → Type 0
IsShallowTurn above (read v) = above + depth_of v.1 ≤ depth_limit
IsShallowTurn above (waits frame i) = (depth_around frame ≡ above) × IsShallowFrame frame

-- A turn gives what is wanted, at a place from this one on in the text, so many tables and arrays standing around it.
pub record IsValueStep (text : List ℕ) (from above : ℕ) (wanted : TomlReading ValueFound)
    (turn : ValueStep) : Type 0 where
  pub answers : wanted ≡ turn_answer text turn
  pub shallow : IsShallowTurn above turn
  pub goes : from ≤ turn_place turn
  pub within : turn_place turn ≤ length text

-- an array that goes on
abbrev pub array_turn : ℕ → ℕ → Items → Next → ValueStep
array_turn start above items (Closed next) = read (from_to start next, data.array items, next)
array_turn start above items (Further i) = waits (in_array start above items) i

abbrev pub array_on : List ℕ → ℕ → ℕ → Items → Next → TomlReading ValueFound
array_on text start above items next = turn_answer text (array_turn start above items next)

-- an inline table that is closed, and one whose key was read
abbrev pub table_turn : ℕ → Branches → ℕ → ValueStep
table_turn start branches next = read (from_to start next, data.table (entries_of branches), next)

abbrev pub entry_on : List ℕ → ℕ → ℕ → Branches → KeysFound → TomlReading ValueFound
entry_on text start above branches left =
    fault_or (put_fault left.0 branches (above + 1))
    (turn_answer text (waits (in_table start above branches left.0) left.1))

-- an inline table that goes on
abbrev pub table_on : List ℕ → ℕ → ℕ → Branches → Next → TomlReading ValueFound
table_on text start above branches (Closed next) = turn_answer text (table_turn start branches next)
table_on text start above branches (Further i) = then_read (entry_on text start above branches) (read_left text i)
