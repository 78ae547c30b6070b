-- What a command makes its answer of: the policy, and the licences of the crates that are asked for.
use Rattle.std.specs.Prelude.{◌≡◌, ◌⊎◌, ℕ, List, Result, Ok, Err}
use Rattle.tree_core.specs.Faults.{Gained, GainedPrefix}
use Rattle.tree_core.specs.texts.Cause.{Cause, no_memory, refused_write}
use Rattle.tree_core.specs.file_reads.Read.{AreReads, records_of_reads}
use Rattle.diag_core.specs.File.{File}
use Rattle.policy_core.specs.declared.valid.policy.ValidConfig.{ValidConfig}
use Rattle.gather_license.specs.expression.Scanned.{Scanner}
use Rattle.gather_core.specs.findings.License.{expression_of}
use Rattle.gather_core.specs.Calls.{AreTurnsBy, ReadsOfCrate, reads_of_all}
use Rattle.gather_core.specs.Gathered.{krate_of}
use Rattle.gather_core.specs.declared.summary.KrateLicense.{KrateLicense}
use Rattle.run_found.specs.declared.error.Error.{Error}
use Rattle.run_found.specs.Found.{count_metadata, files_loaded}
use Rattle.run_found.specs.Hearing.{RequestHearing, TreeSeen, crates_heard}
use Rattle.run_found.specs.Licenses.{counted_heard, expression_in, priority_heard}
use Rattle.run_found.specs.Error.{cause_of}
use Rattle.run_found.specs.Written.{IsRefusedIn, IsSilent, SinkSeen}
use Rattle.run_command.specs.Found.{HearsAllDue, IsHeard, PutsInOrder, load_heard, turns_in}
use Rattle.run_command.specs.Given.{CommandArguments}
use Rattle.run_command.specs.Stops.{Asks, PolicyAndCrates, Stops}

-- What was read asks for these crates, and the licences are theirs, in the order of their ids: each look and each read
-- that was due was made; the policy is the one that was found, its lists in order; each crate had its turn, by the
-- answers to its own reads, which left this table of files.
pub record IsSettled (given : CommandArguments) (hearing : RequestHearing) (policy : ValidConfig)
    (licenses : List KrateLicense) (last : List File) : Type 0 where
  pub due : HearsAllDue given hearing
  pub asked : PolicyAndCrates
  pub asks : Asks given hearing asked
  pub ordered : PutsInOrder given asked.policy policy
  pub crates : crates_heard hearing ≡ asked.crates
  pub records : AreReads (count_metadata given.request hearing) (reads_of_all hearing.crates)
  pub turns : AreTurnsBy (files_loaded given.request hearing) (turns_in given hearing policy) licenses last

-- The licence of a crate is the one that has priority by what the answers to its own reads say, the exceptions are
-- those that count by these answers, and its reads are kept as they were made. Of all crates this follows from their
-- turns.
pub record IsLicenseHeard (scanner : Scanner) (policy : ValidConfig) (one : ReadsOfCrate)
    (license : KrateLicense) : Type 0 where
  pub krate : krate_of license ≡ one.krate
  pub reads : license.reads ≡ records_of_reads one.reads
  pub expression : expression_of license.lic_info ≡ expression_in (priority_heard scanner policy one)
  pub exceptions : license.exceptions ≡ counted_heard policy one

-- ---- what is so of a tree and a sink

-- The calls of what was read were made, and no other, all that is printed of the load was written, and this is so of
-- what was read.
pub record HearsSo (given : CommandArguments) (tree : TreeSeen) (err : SinkSeen)
    (IsSo : RequestHearing → Type 0) : Type 0 where
  pub hearing : RequestHearing
  pub heard : IsHeard given tree hearing
  pub written : Gained err.old err.new (load_heard given hearing)
  pub is_so : IsSo hearing

-- this is so of a value, or the command was refused before it did its own
abbrev pub AnswersSo : {X : Type 0} → CommandArguments → TreeSeen → SinkSeen → (X → RequestHearing → Type 0)
    → Result X Error → Type 0
AnswersSo {X} given tree err IsSo (Ok value) = HearsSo given tree err (IsSo value)
AnswersSo {X} given tree err IsSo (Err error) = Stops given tree err error

-- ---- what is written to a sink of the command's own, once nothing else can be refused

-- of a text: a prefix where memory was wanting, and where a write was refused, which has the sink's counts
abbrev pub IsCutBy : SinkSeen → List ℕ → Cause → Type 0
IsCutBy out text no_memory = GainedPrefix out.old out.new text
IsCutBy out text (refused_write first last) = IsRefusedIn out text first last
IsCutBy out text _ = ⊥

-- a value was found, and its text was written, or a prefix of that
pub record WritesAll {X : Type 0} (given : CommandArguments) (tree : TreeSeen) (err out : SinkSeen)
    (IsSo : X → RequestHearing → Type 0) (text : X → List ℕ) (IsAnswer : X → Type 0) : Type 0 where
  pub value : X
  pub hears : HearsSo given tree err (IsSo value)
  pub written : Gained out.old out.new (text value)
  pub is_answer : IsAnswer value

pub record CutsOut {X : Type 0} (given : CommandArguments) (tree : TreeSeen) (err out : SinkSeen)
    (IsSo : X → RequestHearing → Type 0) (text : X → List ℕ) (cause : Cause) : Type 0 where
  pub value : X
  pub hears : HearsSo given tree err (IsSo value)
  pub cut : IsCutBy out (text value) cause

-- A command that answers a part of a value, once the text of the value is written to `out`; it may be refused before,
-- and then nothing is on `out`.
abbrev pub WritesOut : {X A : Type 0} → CommandArguments → TreeSeen → SinkSeen → SinkSeen
    → (X → RequestHearing → Type 0) → (X → List ℕ) → (X → A) → Result A Error → Type 0
WritesOut {X} {A} given tree err out IsSo text answer (Ok told) =
    WritesAll given tree err out IsSo text (λ value. told ≡ answer value)
WritesOut {X} {A} given tree err out IsSo text answer (Err error) =
    (Stops given tree err error × IsSilent out) ⊎ CutsOut given tree err out IsSo text (cause_of error)
