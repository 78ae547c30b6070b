-- What a call adds to the trace of a tree, and what the calls of a trace say.
use Rattle.std.specs.Prelude.{◌≡◌, ℕ, Bool, List, [], ◌∷◌, map, is_some, Option, Some, None, Result, Ok, Err}
use Rattle.tree_core.specs.Answer.{has_file, listed_entry}
use Rattle.tree_core.specs.Call as call
use Rattle.tree_core.specs.Call.{CallKind, CallAnswer, Call}
use Rattle.tree_core.specs.Content.{Content, TreeNode, file, folder, entries_in, node_at, resolve}
use Rattle.tree_core.specs.Faults.{next_count}
use Rattle.tree_core.specs.declared.tree.TreeError.{TreeError}
use Rattle.tree_core.specs.declared.tree.TreeError.TheVariants.{Absent, WrongKind, Failed, Memory}
use Rattle.tree_core.specs.declared.tree.Entry.{Entry}

abbrev pub refusal_answer : TreeError → CallAnswer
refusal_answer Absent = call.absent
refusal_answer WrongKind = call.wrong_kind
refusal_answer Failed = call.failed
refusal_answer Memory = call.no_memory

-- what was answered, by how a value is reported
abbrev pub call_answer : {T : Type 0} → (T → CallAnswer) → Result T TreeError → CallAnswer
call_answer tell (Ok value) = tell value
call_answer tell (Err error) = refusal_answer error

abbrev pub read_call : List ℕ → Result (List ℕ) TreeError → Call
read_call path result = record { asked = call.read; path = path; answer = call_answer call.bytes result }

abbrev pub list_call : List ℕ → Result (List Entry) TreeError → Call
list_call path result = record {
  asked = call.list;
  path = path;
  answer = call_answer (λ items. call.entries (map listed_entry items)) result;
}

abbrev pub file_call : List ℕ → Result Bool TreeError → Call
file_call path result = record { asked = call.is_file; path = path; answer = call_answer call.told result }

abbrev pub exists_call : List ℕ → Result Bool TreeError → Call
exists_call path result = record { asked = call.exists; path = path; answer = call_answer call.told result }

-- ---- how often calls failed

-- the count behind a call that was answered so: one more where it failed, up to the last number
abbrev pub fault_behind : ℕ → CallAnswer → ℕ
fault_behind count (call.bytes items) = count
fault_behind count (call.entries items) = count
fault_behind count (call.told answer) = count
fault_behind count call.absent = count
fault_behind count call.wrong_kind = count
fault_behind count call.failed = next_count count
fault_behind count call.no_memory = count

-- the count behind calls: one more for each that failed, up to the last number
abbrev pub faults_after : ℕ → List Call → ℕ
faults_after count [] = count
faults_after count (one ∷ calls) = faults_after (fault_behind count one.answer) calls

-- ---- what a content answers

-- to a read, by what is there
abbrev pub read_answer : Option TreeNode → CallAnswer
read_answer None = call.absent
read_answer (Some folder) = call.wrong_kind
read_answer (Some (file bytes)) = call.bytes bytes

-- to a listing, by what is there and what is in it
abbrev pub list_answer : List (List ℕ × Bool) → Option TreeNode → CallAnswer
list_answer items None = call.absent
list_answer items (Some folder) = call.entries items
list_answer items (Some (file bytes)) = call.wrong_kind

-- to a call at a path
abbrev pub content_answer : Content → CallKind → List ℕ → CallAnswer
content_answer content call.read path = read_answer (node_at content path)
content_answer content call.list path = list_answer (entries_in content (resolve path)) (node_at content path)
content_answer content call.is_file path = call.told (has_file (node_at content path))
content_answer content call.exists path = call.told (is_some (node_at content path))

-- the answer is this one, but for a failure and for want of memory
abbrev pub IsUnlessLost : CallAnswer → CallAnswer → Type 0
IsUnlessLost there call.failed = Unit {0}
IsUnlessLost there call.no_memory = Unit {0}
IsUnlessLost there (call.bytes items) = call.bytes items ≡ there
IsUnlessLost there (call.entries items) = call.entries items ≡ there
IsUnlessLost there (call.told answer) = call.told answer ≡ there
IsUnlessLost there call.absent = call.absent ≡ there
IsUnlessLost there call.wrong_kind = call.wrong_kind ≡ there

-- a call says of a content no more than is so: it failed, or memory was wanting, or its answer is what the content has
-- there
abbrev pub Says : Content → Call → Type 0
Says content one = IsUnlessLost (content_answer content one.asked one.path) one.answer
