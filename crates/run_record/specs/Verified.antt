-- What verifying answers and writes.
use Rattle.std.specs.Prelude.{◌≡◌, ◌⊎◌, ℕ, List, [], ◌∷◌, ◌++◌, Some, Result, Ok, Err, codes}
use Rattle.tree_core.specs.Call.{CallAnswer}
use Rattle.tree_core.specs.Faults.{Gained, GainedPrefix}
use Rattle.tree_core.specs.Trace.{fault_behind, faults_after}
use Rattle.tree_core.specs.texts.Heard.{read_of, text_answered}
use Rattle.tree_core.specs.declared.texts.fault.ReadFault.{ReadFault}
use Rattle.diag_core.specs.File.{File}
use Rattle.policy_core.specs.valid.View.{policy_of}
use Rattle.policy_core.specs.declared.valid.policy.ValidConfig.{ValidConfig}
use Rattle.gather_core.specs.declared.summary.KrateLicense.{KrateLicense}
use Rattle.check_record.specs.declared.items.RecordItem.{RecordItem}
use Rattle.check_record.specs.Decoded.{Spells}
use Rattle.check_verify.specs.declared.answer.VerifyAnswer.{VerifyAnswer}
use Rattle.check_verify.specs.declared.answer.VerifyAnswer.TheVariants.{Yes, No}
use Rattle.check_verify.specs.declared.answer.NoReason.{NoReason}
use Rattle.check_verify.specs.declared.answer.NoReason.TheVariants.{Crates, Variant, NotAChoice, NotSatisfied, HasHit}
use Rattle.check_verify.specs.declared.answer.NoReason.TheVariants.{NotBlocking}
use Rattle.check_verify.specs.Verified.{IsVerified}
use Rattle.run_found.specs.declared.error.Error.{Error}
use Rattle.run_found.specs.declared.error.Error.TheVariants.{Memory, RecordRead, RecordSyntax}
use Rattle.run_found.specs.declared.reads.CrateRead.{CrateRead}
use Rattle.run_found.specs.Hearing.{MadeOn, RequestHearing, TreeSeen}
use Rattle.run_found.specs.Reads.{reads_gathered}
use Rattle.run_found.specs.Written.{IsSilent, SinkSeen}
use Rattle.run_command.specs.Found.{calls_of, load_heard}
use Rattle.run_command.specs.Given.{CommandArguments}
use Rattle.run_command.specs.Settled.{IsSettled}
use Rattle.run_command.specs.Stops.{Stops}
use Rattle.run_command.specs.Written.{IsWriteFault}
use Rattle.run_record.specs.declared.verdicts.VerifiedCrates.{VerifiedCrates}

-- ---- what is written

abbrev pub reason_words : NoReason → List ℕ
reason_words Crates = codes "the crates differ"
reason_words (Variant id) = codes "the verdict differs"
reason_words (NotAChoice id) = codes "the places are no choice"
reason_words (NotSatisfied id) = codes "an entry does not satisfy"
reason_words (HasHit id) = codes "a place has a hit"
reason_words (NotBlocking id) = codes "the places do not block"

abbrev pub answer_text : VerifyAnswer → List ℕ
answer_text Yes = codes "verified\n"
answer_text (No reason) = codes "not verified: " ++ reason_words reason ++ codes "\n"

-- ---- the answer about a file, by the policy, the licences and the answer to its read, from a count of faults on

-- it is the spelling of a record, and the answer tells whether that is right
pub record TellsVerified (crates : VerifiedCrates) (policy : ValidConfig) (licenses : List KrateLicense) (count : ℕ)
    (answer : CallAnswer) : Type 0 where
  pub text : List ℕ
  pub hears : text_answered count (fault_behind count answer) answer ≡ Some (Ok text)
  pub items : List RecordItem
  pub spells : Spells text items
  pub verified : IsVerified (policy_of policy) licenses items crates.answer
  pub reads : crates.reads ≡ reads_gathered licenses

-- it is a text, and the spelling of no record
pub record TellsNoRecord (policy : ValidConfig) (licenses : List KrateLicense) (count : ℕ)
    (answer : CallAnswer) : Type 0 where
  pub text : List ℕ
  pub hears : text_answered count (fault_behind count answer) answer ≡ Some (Ok text)
  pub not_spelled : (items : List RecordItem) → Spells text items → ⊥

-- it is no text, or was not read
pub record TellsUnread (fault : ReadFault) (reads : List CrateRead) (policy : ValidConfig)
    (licenses : List KrateLicense) (count : ℕ) (answer : CallAnswer) : Type 0 where
  pub hears : text_answered count (fault_behind count answer) answer ≡ Some (Err fault)
  pub reads_are : reads ≡ reads_gathered licenses

-- so of an answer and of each refusal; nothing is reported where memory was wanting
abbrev pub Tells : Result VerifiedCrates Error → ValidConfig → List KrateLicense → ℕ → CallAnswer → Type 0
Tells (Ok crates) = TellsVerified crates
Tells (Err Memory) = λ policy licenses count answer. Unit {0}
Tells (Err (RecordRead fault reads)) = TellsUnread fault reads
Tells (Err RecordSyntax) = TellsNoRecord
Tells (Err _) = λ policy licenses count answer. ⊥

-- ---- the command

-- The licences of the crates were settled, and then the file at a path was read; the calls of that were made, and no
-- other; all that is printed of the load was written; and this is so of the policy, the licences, the count of faults
-- before the read and its answer.
pub record SettlesBy (given : CommandArguments) (path : List ℕ) (tree : TreeSeen) (err : SinkSeen)
    (IsSo : ValidConfig → List KrateLicense → ℕ → CallAnswer → Type 0) : Type 0 where
  pub hearing : RequestHearing
  pub policy : ValidConfig
  pub licenses : List KrateLicense
  pub last : List File
  pub answer : CallAnswer
  pub begun : hearing.begun ≡ tree.count_before
  pub made : MadeOn tree (calls_of given hearing ++ read_of path answer ∷ [])
  pub settled : IsSettled given hearing policy licenses last
  pub written : Gained err.old err.new (load_heard given hearing)
  pub is_so : IsSo policy licenses (faults_after tree.count_before (calls_of given hearing)) answer

-- Before the answer is written: it is about what was read. So is a refusal, or the command was refused before it
-- did its own.
abbrev pub VerifiesFirst : CommandArguments → List ℕ → TreeSeen → SinkSeen → Result VerifiedCrates Error → Type 0
VerifiesFirst given path tree err (Ok crates) = SettlesBy given path tree err (Tells (Ok crates))
VerifiesFirst given path tree err (Err error) =
    Stops given tree err error ⊎ SettlesBy given path tree err (Tells (Err error))

-- the answer was reported, and a prefix of it written, behind which a write was refused
pub record CutsAnswer (given : CommandArguments) (path : List ℕ) (tree : TreeSeen) (err out : SinkSeen)
    (error : Error) : Type 0 where
  pub crates : VerifiedCrates
  pub settles : SettlesBy given path tree err (Tells (Ok crates))
  pub refused : IsWriteFault out.before out.after error
  pub front : GainedPrefix out.old out.new (answer_text crates.answer)

-- The answer is written. A refusal leaves nothing on `out`, or it is that of the write.
abbrev pub Verifies : CommandArguments → List ℕ → TreeSeen → SinkSeen → SinkSeen → Result VerifiedCrates Error → Type 0
Verifies given path tree err out (Ok crates) =
    SettlesBy given path tree err (Tells (Ok crates)) × Gained out.old out.new (answer_text crates.answer)
Verifies given path tree err out (Err error) =
    (VerifiesFirst given path tree err (Err error) × IsSilent out) ⊎ CutsAnswer given path tree err out error
