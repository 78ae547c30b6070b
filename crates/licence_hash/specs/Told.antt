-- What the program writes of the files that words name.
use Rattle.std.specs.Prelude.{◌≡◌, ◌≤◌, ◌⊎◌, ℕ, Bool, List, [], ◌∷◌, ◌++◌, map, flat_map, codes, Result, Ok, Err, Some}
use Rattle.std.specs.Prelude.{is_ok}
use Rattle.std.specs.List.{All, list_all}
use Rattle.tree_core.specs.Call.{Call, CallAnswer}
use Rattle.tree_core.specs.Faults.{Rose, Gained, GainedPrefix}
use Rattle.tree_core.specs.Script.{SinkTexts}
use Rattle.tree_core.specs.texts.Heard.{IsTextRead, read_of, text_answered}
use Rattle.tree_core.specs.declared.texts.fault.ReadFault.{ReadFault}
use Rattle.tree_core.specs.declared.texts.fault.ReadFault.TheVariants.{Failed, Absent, Folder, NotUtf8}
use Rattle.licence_hash.specs.Entry.{entry_of}
use Rattle.licence_hash.specs.declared.told.TellError.{TellError}
use Rattle.licence_hash.specs.declared.told.TellError.TheVariants.{Memory, Write, Words}

-- why a file has no entry
unfoldable pub fault_words : ReadFault → List ℕ
fault_words (Failed before after) = codes "could not be read"
fault_words Absent = codes "there is no such file"
fault_words Folder = codes "is a folder"
fault_words (NotUtf8 at) = codes "is no UTF-8, so no clarification can hold by it"

-- the line of a file that has no entry
abbrev pub refusal_of : List ℕ → List ℕ → List ℕ
refusal_of path words = codes "licence-hash: " ++ path ++ codes ": " ++ words ++ codes "\n"

-- what standard output gains by what is read of a file: its entry
abbrev pub out_text : List ℕ → Result (List ℕ) ReadFault → List ℕ
out_text path (Ok text) = entry_of path text
out_text path (Err fault) = []

-- what standard error gains: why it has none
abbrev pub err_text : List ℕ → Result (List ℕ) ReadFault → List ℕ
err_text path (Ok text) = []
err_text path (Err fault) = refusal_of path (fault_words fault)

-- a read: the path, what the tree answered, and what is read by that; the tree's counts of faults before it and behind
pub record FileRead : Type 0 where
  pub path : List ℕ
  pub answer : CallAnswer
  pub heard : Result (List ℕ) ReadFault
  pub before : ℕ
  pub after : ℕ

abbrev pub call_of : FileRead → Call
call_of one = read_of one.path one.answer

-- what is read is what the answer says
abbrev pub IsHeard : FileRead → Type 0
IsHeard one = text_answered one.before one.after one.answer ≡ Some one.heard

abbrev pub path_of : FileRead → List ℕ
path_of one = one.path

abbrev pub out_of : FileRead → List ℕ
out_of one = out_text one.path one.heard

abbrev pub err_of : FileRead → List ℕ
err_of one = err_text one.path one.heard

abbrev pub has_entry : FileRead → Bool
has_entry one = is_ok one.heard

-- These files were read in order, each once, and nothing else; standard output gained the entry of each that is a text,
-- standard error a line for each other; and `are_all` is whether each has an entry.
pub record AreTold (named : List (List ℕ)) (old new : List Call) (before after : SinkTexts)
    (are_all : Bool) : Type 0 where
  pub reads : List FileRead
  pub names : map path_of reads ≡ named
  pub calls : new ≡ old ++ map call_of reads
  pub hears : All IsHeard reads
  pub out : Gained before.out after.out (flat_map out_of reads)
  pub err : Gained before.err after.err (flat_map err_of reads)
  pub all : list_all has_entry reads ≡ are_all

-- ---- where it is given up

-- the counts of faults of two sinks, before a call and behind it
pub record SinkFaults : Type 0 where
  pub out_before : ℕ
  pub out_after : ℕ
  pub err_before : ℕ
  pub err_after : ℕ

abbrev pub sink_faults : {A B : Type 0} → (A → ℕ) → (B → ℕ) → A → B → A → B → SinkFaults
sink_faults out err out_old err_old out_new err_new = record {
  out_before = out out_old;
  out_after = out out_new;
  err_before = err err_old;
  err_after = err err_new;
}

-- neither count fell
abbrev pub AreLater : SinkFaults → Type 0
AreLater faults = (faults.out_before ≤ faults.out_after) × (faults.err_before ≤ faults.err_after)

-- Why it is given up once the words were read: for want of memory, or because one of the sinks refused a write, so its
-- count rose.
abbrev pub IsCaused : SinkFaults → TellError → Type 0
IsCaused faults Memory = Unit {0}
IsCaused faults Write = Rose faults.out_before faults.out_after ⊎ Rose faults.err_before faults.err_after
IsCaused faults Words = ⊥

-- what the sinks gained of what was read of a file: nothing where memory was wanting, and a prefix where one refused it
abbrev pub IsCutText : TellError → List ℕ → Result (List ℕ) ReadFault → SinkTexts → SinkTexts → Type 0
IsCutText Memory path heard before after = (after.out ≡ before.out) × (after.err ≡ before.err)
IsCutText Write path heard before after =
    GainedPrefix before.out after.out (out_text path heard) × GainedPrefix before.err after.err (err_text path heard)
IsCutText Words path heard before after = ⊥

-- one call was made, the read of this path
pub record IsAsked (path : List ℕ) (old new : List Call) : Type 0 where
  pub answer : CallAnswer
  pub made : new ≡ old ++ read_of path answer ∷ []

-- this path was read, and a prefix of what is read of it was written
pub record IsPartlyWritten (path : List ℕ) (old new : List Call) (before after : SinkTexts) : Type 0 where
  pub begun : ℕ
  pub behind : ℕ
  pub heard : Result (List ℕ) ReadFault
  pub read : IsTextRead begun behind old new path heard
  pub cut : IsCutText Write path heard before after

-- What was done of a file at which it is given up: it was asked, and where a sink refused what was read of it, a prefix
-- of that is written.
abbrev pub IsCutAt : TellError → List ℕ → List Call → List Call → SinkTexts → SinkTexts → Type 0
IsCutAt Memory path old new before after =
    IsAsked path old new × (after.out ≡ before.out) × (after.err ≡ before.err)
IsCutAt Write path old new before after = IsPartlyWritten path old new before after
IsCutAt Words path old new before after = ⊥

-- It is given up at one of these files: what those before it have is written, and none behind it was asked.
pub record IsCutAmong (error : TellError) (named : List (List ℕ)) (old new : List Call)
    (before after : SinkTexts) : Type 0 where
  pub earlier : List (List ℕ)
  pub path : List ℕ
  pub later : List (List ℕ)
  pub parts : named ≡ earlier ++ path ∷ later
  pub calls : List Call
  pub texts : SinkTexts
  pub are_all : Bool
  pub told : AreTold earlier old calls before texts are_all
  pub cut : IsCutAt error path calls new texts after
