-- What is read by what a tree answered, whatever it tells of its content.
use Rattle.std.specs.Prelude.{◌≡◌, ℕ, List, [], ◌∷◌, ◌++◌, Option, Some, None}
use Rattle.tree_core.specs.Call as call
use Rattle.tree_core.specs.Call.{CallKind, CallAnswer, Call}
use Rattle.tree_core.specs.Content.{file}
use Rattle.tree_core.specs.file_reads.Heard.{ReadResult, failed, absent, wrong_kind, entries, file_heard}

-- Of a read, between these two counts of faults. For want of memory nothing is read, and neither is by an answer to
-- something else.
abbrev pub file_answered : ℕ → ℕ → CallAnswer → Option ReadResult
file_answered before after (call.bytes items) = Some (file_heard (Some (file items)))
file_answered before after (call.entries listed) = None
file_answered before after (call.told answer) = None
file_answered before after call.absent = Some absent
file_answered before after call.wrong_kind = Some wrong_kind
file_answered before after call.failed = Some (failed before after)
file_answered before after call.no_memory = None

-- of a listing
abbrev pub folder_answered : ℕ → ℕ → CallAnswer → Option ReadResult
folder_answered before after (call.bytes items) = None
folder_answered before after (call.entries listed) = Some (entries listed)
folder_answered before after (call.told answer) = None
folder_answered before after call.absent = Some absent
folder_answered before after call.wrong_kind = Some wrong_kind
folder_answered before after call.failed = Some (failed before after)
folder_answered before after call.no_memory = None

abbrev pub call_of : CallKind → List ℕ → CallAnswer → Call
call_of asked path answer = record { asked = asked; path = path; answer = answer }

-- one call was made, the read of this path, and this is read by its answer
pub record IsFileRead (before after : ℕ) (old new : List Call) (path : List ℕ) (heard : ReadResult) : Type 0 where
  pub answer : CallAnswer
  pub made : new ≡ old ++ call_of call.read path answer ∷ []
  pub hears : file_answered before after answer ≡ Some heard

-- one call was made, the listing of this path, and this is read by its answer
pub record IsListed (before after : ℕ) (old new : List Call) (path : List ℕ) (heard : ReadResult) : Type 0 where
  pub answer : CallAnswer
  pub made : new ≡ old ++ call_of call.list path answer ∷ []
  pub hears : folder_answered before after answer ≡ Some heard
