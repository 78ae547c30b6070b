-- Reads of a crate's files, each with the answer of its call.
use Rattle.std.specs.Prelude.{◌≡◌, ℕ, Bool, List, [], ◌∷◌, ◌++◌, map, Option, Some, None, unwrap_or, if◌then◌else◌}
use Rattle.std.specs.List.{All}
use Rattle.deny_text.specs.Path.{components_of, join_of}
use Rattle.tree_core.specs.Call as call
use Rattle.tree_core.specs.Call.{CallKind, CallAnswer, Call}
use Rattle.tree_core.specs.Content.{Content, resolve}
use Rattle.tree_core.specs.Hearing.{Made}
use Rattle.tree_core.specs.Trace.{Says, fault_behind, faults_after}
use Rattle.tree_core.specs.declared.reads.ReadAnswer.{ReadAnswer}
use Rattle.tree_core.specs.declared.reads.ReadKind.{ReadKind}
use Rattle.tree_core.specs.declared.reads.ReadKind.TheVariants.{Manifest, Listing, LicenseFile}
use Rattle.tree_core.specs.declared.reads.ReadRecord.{ReadRecord}
use Rattle.tree_core.specs.file_reads.Answered.{call_of, file_answered, folder_answered}
use Rattle.tree_core.specs.file_reads.Heard.{ReadResult, absent, read_answer_of, counts_in, or_there, read_place}
use Rattle.tree_core.specs.file_reads.Heard.{there_heard}
use Rattle.tree_core.specs.file_reads.Rising.{RiseInOrder}

-- a record of a read, and what the tree answered to its call
pub record AnsweredRead : Type 0 where
  pub recorded : ReadRecord
  pub answer : CallAnswer

abbrev pub records_of_reads : List AnsweredRead → List ReadRecord
records_of_reads reads = map (λ read. read.recorded) reads

-- ---- their calls

-- what is asked: a folder is listed, a manifest and a licence file are read
abbrev pub asked_for : ReadKind → CallKind
asked_for Manifest = call.read
asked_for Listing = call.list
asked_for LicenseFile = call.read

-- the path as it is given to the tree: a licence file's is joined to the crate's folder, any other is its own
abbrev pub given_path : List ℕ → ReadKind → List ℕ → List ℕ
given_path folder Manifest path = path
given_path folder Listing path = path
given_path folder LicenseFile path = join_of folder path

-- the call that is made for a record, with its answer
abbrev pub call_for : List ℕ → ReadRecord → CallAnswer → Call
call_for folder read answer = call_of (asked_for read.kind) (given_path folder read.kind read.path) answer

-- the calls of the reads of a crate in this folder
abbrev pub calls_in : List ℕ → List AnsweredRead → List Call
calls_in folder reads = map (λ read. call_for folder read.recorded read.answer) reads

-- the call of this record, where there is one, found no memory
abbrev pub call_lost : List ℕ → Option ReadRecord → List Call
call_lost folder None = []
call_lost folder (Some read) = call_for folder read call.no_memory ∷ []

-- ---- what they say

-- what the answer of a read of this kind says, between these counts of faults
abbrev pub kind_answered : ReadKind → ℕ → ℕ → CallAnswer → Option ReadResult
kind_answered Manifest before after answer = file_answered before after answer
kind_answered Listing before after answer = folder_answered before after answer
kind_answered LicenseFile before after answer = file_answered before after answer

-- the counts that a record carries, where its read failed
abbrev pub counts_carried : ReadAnswer → ℕ × ℕ
counts_carried answer = unwrap_or (counts_in answer) (0, 0)

-- What a read says: what its answer does, between the counts that its record carries. An answer by which nothing is
-- read stands for a read that was not made.
abbrev pub read_heard : AnsweredRead → ReadResult
read_heard read =
    unwrap_or (kind_answered read.recorded.kind (counts_carried read.recorded.answer).0
    (counts_carried read.recorded.answer).1 read.answer) absent

-- what the first read of those that are asked for says; where there is none, nothing is there
abbrev pub first_heard : (ReadRecord → Bool) → List AnsweredRead → ReadResult
first_heard is_asked [] = absent
first_heard is_asked (read ∷ reads) = if is_asked read.recorded then read_heard read else first_heard is_asked reads

-- ---- their records

-- The record of a read tells what its answer says; where the call failed, with the tree's count of faults before it and
-- the one behind it.
pub record IsRecorded (before : ℕ) (read : AnsweredRead) : Type 0 where
  pub heard : ReadResult
  pub hears : kind_answered read.recorded.kind before (fault_behind before read.answer) read.answer ≡ Some heard
  pub tells : read.recorded.answer ≡ read_answer_of heard

-- the records tell what the answers say, one after the other from this count of faults on
abbrev pub AreReads : ℕ → List AnsweredRead → Type 0
AreReads before [] = Unit {0}
AreReads before (read ∷ reads) = IsRecorded before read × AreReads (fault_behind before read.answer) reads

-- reads whose records tell what their answers say rise one after the other, up to the count behind their calls
abbrev pub ReadsRise : Type 0
ReadsRise =
    (folder : List ℕ) (before : ℕ) (reads : List AnsweredRead) → AreReads before reads
    → RiseInOrder before (records_of_reads reads) (faults_after before (calls_in folder reads))

-- ---- where content is reported

-- what the content has where a read looks is what the read says, but for its failure
abbrev pub HearsContent : Content → List ℕ → AnsweredRead → Type 0
HearsContent content folder read =
    read_heard read
    ≡ or_there (counts_in read.recorded.answer)
    (there_heard read.recorded.kind content
    (read_place read.recorded.kind (resolve folder) (components_of read.recorded.path)))

-- where each call says what a content has, and the records tell what the answers say, so does each read
abbrev pub ReadsTellContent : Type 0
ReadsTellContent =
    (content : Content) (folder : List ℕ) (before : ℕ) (reads : List AnsweredRead) → AreReads before reads
    → All (Says content) (calls_in folder reads) → All (HearsContent content folder) reads

-- ---- over a tree

-- These reads were made for a crate in this folder: their calls were made, and no other, and their records tell what
-- the answers say.
pub record MadeReads (told tells : Option Content) (before after : ℕ) (old new : List Call) (folder : List ℕ)
    (reads : List AnsweredRead) : Type 0 where
  pub made : Made told tells before after old new (calls_in folder reads)
  pub are : AreReads before reads

-- These reads were made, and then memory was wanting: perhaps in one more call, that of this record.
pub record LackedMemory (told tells : Option Content) (before after : ℕ) (old new : List Call) (folder : List ℕ)
    (reads : List AnsweredRead) (lost : Option ReadRecord) : Type 0 where
  pub made : Made told tells before after old new (calls_in folder reads ++ call_lost folder lost)
  pub are : AreReads before reads
