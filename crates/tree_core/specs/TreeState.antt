-- A tree in memory.
use Rattle.std.specs.Prelude.{◌≡◌, ℕ, ◌+◌, ◌-◌, ◌<◌, ◌==◌, Bool, List, [], ◌∷◌, ◌++◌, map, Option, Some, None, length}
use Rattle.std.specs.Prelude.{take, if◌then◌else◌, refl}
use Rattle.std.specs.Coded.{Coded, code_by, coded×, coded_ℕ, coded_list, coded_option}
use Rattle.std.specs.List.{list_any}
use Rattle.std.specs.FinMap as map
use Rattle.tree_core.specs.Content.{Content, Place, TreeNode, file, folder}
use Rattle.tree_core.specs.Call.{Call, call_code}
use Rattle.tree_core.specs.Faults.{next_count}

-- what it holds, how often it failed, which of its calls will fail, counted from 1 at the next (0 is a call gone by),
-- and the calls so far
pub record TreeState : Type 0 where
  pub content : Content
  pub faults : ℕ
  pub failing : List ℕ
  pub calls : List Call

abbrev pub bytes_of : TreeNode → Option (List ℕ)
bytes_of (file bytes) = Some bytes
bytes_of folder = None

abbrev pub node_from : Option (List ℕ) → TreeNode
node_from (Some bytes) = file bytes
node_from None = folder

pub node_from-bytes_of : (node : TreeNode) → node_from (bytes_of node) ≡ node
node_from-bytes_of (file bytes) = refl
node_from-bytes_of folder = refl

-- a node is stored as the bytes of a file, if it is one
abbrev pub node_code : Coded TreeNode
node_code = code_by (Option (List ℕ)) (coded_option (coded_list coded_ℕ)) bytes_of node_from node_from-bytes_of

-- a state is stored as the pairs of its fields
abbrev pub state_code : Coded TreeState
state_code =
    code_by (Content × (ℕ × (List ℕ × List Call)))
    (coded× (map.code (coded_list (coded_list coded_ℕ)) node_code)
    (coded× coded_ℕ (coded× (coded_list coded_ℕ) (coded_list call_code))))
    (λ s. (s.content, (s.faults, (s.failing, s.calls))))
    (λ p. record { content = p.0; faults = p.1.0; failing = p.1.1.0; calls = p.1.1.1 }) (λ _. refl)

-- the root folder alone
abbrev pub root_alone : Content
root_alone = map.from_entries (([], folder) ∷ [])

-- whether the next call is one of those that will fail
abbrev pub fails_next : TreeState → Bool
fails_next state = list_any (λ n. n == 1) state.failing

-- what the beginning of a call leaves: the same content, a call less to wait for each that will fail, and a failure
-- counted
abbrev pub state_behind_start : TreeState → TreeState
state_behind_start state = record {
  content = state.content;
  faults = if fails_next state then next_count state.faults else state.faults;
  failing = map (λ n. n - 1) state.failing;
  calls = state.calls;
}

-- what a call leaves: what its beginning leaves, and the call at the end of the trace
abbrev pub after_call : TreeState → Call → TreeState
after_call state call = record {
  content = state.content;
  faults = if fails_next state then next_count state.faults else state.faults;
  failing = map (λ n. n - 1) state.failing;
  calls = state.calls ++ call ∷ [];
}

-- the real files: how often a call failed, and the calls so far
pub record FolderState : Type 0 where
  pub faults : ℕ
  pub calls : List Call

abbrev pub folder_code : Coded FolderState
folder_code =
    code_by (ℕ × List Call) (coded× coded_ℕ (coded_list call_code)) (λ s. (s.faults, s.calls))
    (λ p. record { faults = p.0; calls = p.1 }) (λ _. refl)

-- the first names of a place, or all of them
abbrev pub IsPlaceFront : Place → Place → Type 0
IsPlaceFront front place = take (length front) place ≡ front

-- nothing can be put there: a folder is there, or a file is above it
pub data Clashes (content : Content) (place : Place) : Type 0 where
  at_folder : map.get content place ≡ Some folder → Clashes content place
  below_file : (above : Place) (bytes : List ℕ) → IsPlaceFront above place → length above < length place
      → map.get content above ≡ Some (file bytes) → Clashes content place

-- the node is there, and what is above it are folders; all else is as it was
pub record Puts (old new : Content) (place : Place) (node : TreeNode) : Type 0 where
  pub there : map.get new place ≡ Some node
  pub above : (front : Place) → IsPlaceFront front place → length front < length place → map.get new front ≡ Some folder
  pub others : (other : Place) → ¬ (IsPlaceFront other place) → map.get new other ≡ map.get old other

-- what is above a place, but not right above it, is in folders
pub record IsClosedAbove (content : Content) (place : Place) : Type 0 where
  pub folders : (count : ℕ) (node : TreeNode) → count + 1 < length place
      → map.get content (take (count + 1) place) ≡ Some node → map.get content (take count place) ≡ Some folder
