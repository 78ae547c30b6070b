-- A folder of licence texts: which of its files are texts, and what is read of them.
use Rattle.std.specs.Prelude.{◌≡◌, ◌≤◌, ℕ, ◌-◌, true, false, List, [], ◌∷◌, ◌++◌, codes, length, take, nat_eq, Option}
use Rattle.std.specs.Prelude.{Some, None, option_map, Result, Ok, Err, if◌then◌else◌}
use Rattle.std.specs.List.{filter_map, ends_with}
use Rattle.deny_text.specs.Path.{join_of}
use Rattle.tree_core.specs.Call as call
use Rattle.tree_core.specs.Call.{CallAnswer, Call}
use Rattle.tree_core.specs.Content.{ListedEntry}
use Rattle.tree_core.specs.texts.Cause.{Cause, no_memory, told, failed_read}
use Rattle.tree_core.specs.texts.Heard.{read_of, text_answered}
use Rattle.tree_core.specs.declared.texts.fault.ReadFault.{ReadFault}
use Rattle.tree_core.specs.declared.texts.fault.ReadFault.TheVariants as read
use Rattle.spdx_terms.specs.declared.catalog.store.StoreText.{StoreText}
use Rattle.spdx_own_names.specs.declared.error.StoreFault.{StoreFault}
use Rattle.spdx_own_names.specs.declared.error.StoreFault.TheVariants.{Failed, Absent, NotFolder, NotUtf8}
use Rattle.spdx_own_names.specs.declared.error.StoreError.{StoreError}
use Rattle.spdx_own_names.specs.declared.error.StoreError.TheVariants.{Fault, Memory}

-- what is before an end
abbrev pub before_end : List ℕ → List ℕ → Option (List ℕ)
before_end end name = if ends_with nat_eq name end then Some (take (length name - length end) name) else None

-- the licence that a file's name tells: what is before `.txt`
abbrev pub license_of : List ℕ → Option (List ℕ)
license_of name = before_end (codes ".txt") name

-- a text of a folder
pub record TextFile : Type 0 where
  pub file : List ℕ
  pub license : List ℕ

abbrev pub text_file : List ℕ → List ℕ → TextFile
text_file file license = record { file = file; license = license }

-- the text that an entry is: a file whose name tells a licence
abbrev pub text_in : ListedEntry → Option TextFile
text_in (name, true) = option_map (text_file name) (license_of name)
text_in (name, false) = None

-- the texts of a folder, in the order of its entries, which is the byte order of their names
abbrev pub texts_of : List ListedEntry → List TextFile
texts_of entries = filter_map text_in entries

-- ---- the calls

abbrev pub list_of : List ℕ → CallAnswer → Call
list_of path answer = record { asked = call.list; path = path; answer = answer }

-- the reads of texts in a folder, one for each answer
abbrev pub reads_of : List ℕ → List TextFile → List CallAnswer → List Call
reads_of dir [] answers = []
reads_of dir (text ∷ texts) [] = []
reads_of dir (text ∷ texts) (answer ∷ answers) = read_of (join_of dir text.file) answer ∷ reads_of dir texts answers

-- the texts that are due by the answer to a listing
abbrev pub texts_due : CallAnswer → List TextFile
texts_due (call.bytes items) = []
texts_due (call.entries items) = texts_of items
texts_due (call.told answer) = []
texts_due call.absent = []
texts_due call.wrong_kind = []
texts_due call.failed = []
texts_due call.no_memory = []

-- ---- what their answers say

-- the texts of a folder, or why there are none
abbrev pub StoreHeard : Type 0
StoreHeard = Result (List StoreText) StoreFault

abbrev pub with_text : StoreText → StoreHeard → StoreHeard
with_text text (Ok texts) = Ok (text ∷ texts)
with_text text (Err fault) = Err fault

-- a file that was listed and is not there, or is a folder, counts as absent
abbrev pub fault_of : List ℕ → ReadFault → StoreFault
fault_of file (read.Failed before after) = Failed before after
fault_of file read.Absent = Absent
fault_of file read.Folder = Absent
fault_of file (read.NotUtf8 place) = NotUtf8 file

-- by what is read of a text and of those behind it; behind one that is not found no other is read
abbrev pub heard_with : TextFile → Option (Result (List ℕ) ReadFault) → List CallAnswer → Option StoreHeard
    → Option StoreHeard
heard_with text None answers rest = None
heard_with text (Some (Ok body)) answers rest =
    option_map (with_text (record { name = text.license; body = body })) rest
heard_with text (Some (Err fault)) [] rest = Some (Err (fault_of text.file fault))
heard_with text (Some (Err fault)) (answer ∷ answers) rest = None

-- By the answers to the reads of texts, between two counts of faults: each text as it is, or the fault of the first
-- that is not found. Nothing is read where memory was wanting, where a read that is due was not made, and where one
-- more was made.
abbrev pub reads_answered : ℕ → ℕ → List TextFile → List CallAnswer → Option StoreHeard
reads_answered begun after [] [] = Some (Ok [])
reads_answered begun after [] (answer ∷ answers) = None
reads_answered begun after (text ∷ texts) [] = None
reads_answered begun after (text ∷ texts) (answer ∷ answers) =
    heard_with text (text_answered begun after answer) answers (reads_answered begun after texts answers)

-- no text is read
abbrev pub if_unread : List CallAnswer → StoreFault → Option StoreHeard
if_unread [] fault = Some (Err fault)
if_unread (answer ∷ answers) fault = None

-- by the answers to the listing and to the reads
abbrev pub store_answered : ℕ → ℕ → CallAnswer → List CallAnswer → Option StoreHeard
store_answered begun after (call.bytes items) reads = None
store_answered begun after (call.entries items) reads = reads_answered begun after (texts_of items) reads
store_answered begun after (call.told answer) reads = None
store_answered begun after call.absent reads = if_unread reads Absent
store_answered begun after call.wrong_kind reads = if_unread reads NotFolder
store_answered begun after call.failed reads = if_unread reads (Failed begun after)
store_answered begun after call.no_memory reads = None

-- ---- over a tree

-- what is read is answered; want of memory may come in the place of any answer
abbrev pub AnswersStore : Option StoreHeard → Result (List StoreText) StoreError → Type 0
AnswersStore heard (Ok texts) = heard ≡ Some (Ok texts)
AnswersStore heard (Err (Fault fault)) = heard ≡ Some (Err fault)
AnswersStore heard (Err Memory) = Unit {0}

-- These texts of a folder were read, in order, up to the first that is not found, and nothing else was asked; this is
-- answered.
pub record AreTextsRead (begun after : ℕ) (old new : List Call) (dir : List ℕ) (texts : List TextFile)
    (result : Result (List StoreText) StoreError) : Type 0 where
  pub reads : List CallAnswer
  pub within : length reads ≤ length texts
  pub made : new ≡ old ++ reads_of dir texts reads
  pub answers : AnswersStore (reads_answered begun after texts reads) result

-- The folder was listed, and then its texts were read, in order, up to the first that is not found, and nothing else
-- was asked; this is answered.
pub record IsStoreRead (begun after : ℕ) (old new : List Call) (dir : List ℕ)
    (result : Result (List StoreText) StoreError) : Type 0 where
  pub listing : CallAnswer
  pub reads : List CallAnswer
  pub made : new ≡ old ++ list_of dir listing ∷ reads_of dir (texts_due listing) reads
  pub answers : AnswersStore (store_answered begun after listing reads) result

-- a text alone
abbrev pub one_text : Result StoreText StoreError → Result (List StoreText) StoreError
one_text (Ok text) = Ok (text ∷ [])
one_text (Err error) = Err error

-- these texts were read behind those that were found
abbrev pub ReadsOn : ℕ → ℕ → List Call → List Call → List ℕ → List TextFile → List StoreText
    → Result (List StoreText) StoreError → Type 0
ReadsOn begun after old new dir texts had (Ok all) =
    (more : List StoreText) × (all ≡ had ++ more) × AreTextsRead begun after old new dir texts (Ok more)
ReadsOn begun after old new dir texts had (Err error) = AreTextsRead begun after old new dir texts (Err error)

-- why a store is refused
abbrev pub store_cause : StoreError → Cause
store_cause (Fault (Failed before after)) = failed_read before after
store_cause (Fault Absent) = told
store_cause (Fault NotFolder) = told
store_cause (Fault (NotUtf8 name)) = told
store_cause Memory = no_memory
