-- What is read of a file as a text.
use Rattle.std.specs.Prelude.{◌≡◌, ℕ, List, [], ◌∷◌, ◌++◌, Option, Some, None, Result, Ok, Err, if◌then◌else◌}
use Rattle.std.specs.Str.{is_utf8}
use Rattle.std.specs.Str.Lossy.{utf8_valid_len}
use Rattle.tree_core.specs.Call as call
use Rattle.tree_core.specs.Call.{CallAnswer, Call}
use Rattle.tree_core.specs.Content.{TreeNode, file, folder}
use Rattle.tree_core.specs.declared.texts.fault.ReadFault.{ReadFault}
use Rattle.tree_core.specs.declared.texts.fault.ReadFault.TheVariants.{Failed, Absent, Folder, NotUtf8}

-- A text, or why there is none: nothing is there, a folder is there, or the bytes are not UTF-8 from some place on.
unfoldable pub heard_of : Option TreeNode → Result (List ℕ) ReadFault
heard_of None = Err Absent
heard_of (Some folder) = Err Folder
heard_of (Some (file bytes)) = if is_utf8 bytes then Ok bytes else Err (NotUtf8 (utf8_valid_len bytes))

-- ---- by what a tree answered

-- What is read by the answer of a read, where the tree's count of faults was the first number when the run began, and
-- is the second behind the read. For want of memory nothing is read, and a look or a listing answers no read.
abbrev pub text_answered : ℕ → ℕ → CallAnswer → Option (Result (List ℕ) ReadFault)
text_answered begun after (call.bytes items) = Some (heard_of (Some (file items)))
text_answered begun after (call.entries items) = None
text_answered begun after (call.told answer) = None
text_answered begun after call.absent = Some (Err Absent)
text_answered begun after call.wrong_kind = Some (Err Folder)
text_answered begun after call.failed = Some (Err (Failed begun after))
text_answered begun after call.no_memory = None

abbrev pub read_of : List ℕ → CallAnswer → Call
read_of path answer = record { asked = call.read; path = path; answer = answer }

-- one call was made, the read of this path, and this is read by its answer
pub record IsTextRead (begun after : ℕ) (old new : List Call) (path : List ℕ)
    (heard : Result (List ℕ) ReadFault) : Type 0 where
  pub answer : CallAnswer
  pub made : new ≡ old ++ read_of path answer ∷ []
  pub hears : text_answered begun after answer ≡ Some heard
