-- What is read on the way to the licences of crates, by what each call was answered.
use Rattle.std.specs.Prelude.{◌≡◌, ℕ, Bool, true, false, List, [], ◌∷◌, map, is_some, Option, Some, None, unwrap_or}
use Rattle.std.specs.Prelude.{Result, Err}
use Rattle.tree_core.specs.Call as call
use Rattle.tree_core.specs.Call.{CallAnswer, Call}
use Rattle.tree_core.specs.Content.{Content}
use Rattle.tree_core.specs.Hearing.{Made, MadeSome}
use Rattle.tree_core.specs.Trace.{content_answer, fault_behind}
use Rattle.graph_core.specs.Krate.{CrateRecord}
use Rattle.tree_core.specs.texts.Heard.{read_of, text_answered}
use Rattle.tree_core.specs.declared.texts.fault.ReadFault.{ReadFault}
use Rattle.tree_core.specs.declared.texts.fault.ReadFault.TheVariants.{Absent}
use Rattle.tree_core.specs.texts.Looked.{look_of}
use Rattle.gather_core.specs.Calls.{ReadsOfCrate}

-- The tree's count of faults when the run began, and what its calls were answered: the looks for a policy, path after
-- path, where none is given; those for an exceptions file; the reads of the policy, of the exceptions file and of the
-- metadata, each where it was made; and of each crate, in order, the reads of its files.
pub record RequestHearing : Type 0 where
  pub begun : ℕ
  pub sought : List CallAnswer
  pub looks : List CallAnswer
  pub policy : Option CallAnswer
  pub exceptions : Option CallAnswer
  pub metadata : Option CallAnswer
  pub crates : List ReadsOfCrate

-- what a tree reported before a run and behind it: its content, its count of faults, and its calls
pub record TreeSeen : Type 0 where
  pub told : Option Content
  pub tells : Option Content
  pub count_before : ℕ
  pub count_after : ℕ
  pub calls_before : List Call
  pub calls_after : List Call

abbrev pub tree_seen : Option Content → Option Content → ℕ → ℕ → List Call → List Call → TreeSeen
tree_seen told tells before after old new =
    record {
      told = told;
      tells = tells;
      count_before = before;
      count_after = after;
      calls_before = old;
      calls_after = new;
    }

-- the same from one state of a tree to another one, by what it tells of its content, its count of faults and its calls
abbrev pub seen_between : {A : Type 0} → (A → Option Content) → (A → ℕ) → (A → List Call) → A → A → TreeSeen
seen_between {A} content count calls old new =
    tree_seen (content old) (content new) (count old) (count new) (calls old) (calls new)

-- calls were made on it, and nothing else came of it
abbrev pub HasMade : TreeSeen → Type 0
HasMade tree = MadeSome tree.told tree.tells tree.count_before tree.count_after tree.calls_before tree.calls_after

-- these calls were made on it, and no other
abbrev pub MadeOn : TreeSeen → List Call → Type 0
MadeOn tree calls =
    Made tree.told tree.tells tree.count_before tree.count_after tree.calls_before tree.calls_after calls

abbrev pub crates_heard : RequestHearing → List CrateRecord
crates_heard hearing = map (λ (one : ReadsOfCrate). one.krate) hearing.crates

-- ---- the looks

-- what looks come to
pub data LooksResult : Type 0 where
  -- one of them failed
  look_failed : LooksResult
  -- at no path is anything
  nowhere : LooksResult
  -- something is at this one
  at : List ℕ → LooksResult
  -- memory was wanting, or not all were made that were due
  unended : LooksResult

-- by what the look at a path was answered, and what those at the paths behind it come to
abbrev pub look_by : CallAnswer → List ℕ → LooksResult → LooksResult
look_by (call.bytes items) path rest = unended
look_by (call.entries items) path rest = unended
look_by (call.told true) path rest = at path
look_by (call.told false) path rest = rest
look_by call.absent path rest = unended
look_by call.wrong_kind path rest = unended
look_by call.failed path rest = look_failed
look_by call.no_memory path rest = unended

-- looks at these paths in order, up to the first whose answer is not that nothing is there
abbrev pub looks_by : List (List ℕ) → List CallAnswer → LooksResult
looks_by [] answers = nowhere
looks_by (path ∷ paths) [] = unended
looks_by (path ∷ paths) (answer ∷ answers) = look_by answer path (looks_by paths answers)

-- the calls behind a look
abbrev pub looks_behind : CallAnswer → List Call → List Call
looks_behind (call.bytes items) rest = []
looks_behind (call.entries items) rest = []
looks_behind (call.told true) rest = []
looks_behind (call.told false) rest = rest
looks_behind call.absent rest = []
looks_behind call.wrong_kind rest = []
looks_behind call.failed rest = []
looks_behind call.no_memory rest = []

-- not one is wanting that was due
abbrev pub is_ended : LooksResult → Bool
is_ended look_failed = true
is_ended nowhere = true
is_ended (at path) = true
is_ended unended = false

-- their calls
abbrev pub look_calls : List (List ℕ) → List CallAnswer → List Call
look_calls [] answers = []
look_calls (path ∷ paths) [] = []
look_calls (path ∷ paths) (answer ∷ answers) = look_of path answer ∷ looks_behind answer (look_calls paths answers)

-- ---- the read of a file

-- the call of a read that is due, where it was made
abbrev pub read_calls : Option (List ℕ) → Option CallAnswer → List Call
read_calls None answer = []
read_calls (Some path) None = []
read_calls (Some path) (Some answer) = read_of path answer ∷ []

-- the count of faults behind it
abbrev pub count_behind : ℕ → Option CallAnswer → ℕ
count_behind count None = count
count_behind count (Some answer) = fault_behind count answer

-- What its answer says, between two counts. Where none was made, and where memory was wanting, nothing is there.
abbrev pub text_by : ℕ → ℕ → Option CallAnswer → Result (List ℕ) ReadFault
text_by begun after None = Err Absent
text_by begun after (Some answer) = unwrap_or (text_answered begun after answer) (Err Absent)

-- something is read by it
abbrev pub is_heard : Option CallAnswer → Bool
is_heard None = false
is_heard (Some answer) = is_some (text_answered 0 0 answer)

-- a read that is due was made, and something is read by its answer; one that is not due was not made
abbrev pub IsReadWhereDue : Option (List ℕ) → Option CallAnswer → Type 0
IsReadWhereDue None answer = answer ≡ None
IsReadWhereDue (Some path) answer = is_heard answer ≡ true

-- so far as a test tells
abbrev pub is_read_where_due : Option (List ℕ) → Option CallAnswer → Bool
is_read_where_due None answer = true
is_read_where_due (Some path) answer = is_heard answer

-- ---- on a content

-- the answer of a call is what the content has at its path
abbrev pub TellsContent : Content → Call → Type 0
TellsContent content one = one.answer ≡ content_answer content one.asked one.path
