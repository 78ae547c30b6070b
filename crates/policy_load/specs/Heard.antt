-- What is read of the files of a policy.
use Rattle.std.specs.Prelude.{◌≡◌, ◌⊎◌, ℕ, List, [], ◌∷◌, ◌++◌, Option, Some, None, Result, Err}
use Rattle.tree_core.specs.Call.{CallAnswer, Call}
use Rattle.diag_core.specs.File.{File, file_id_at}
use Rattle.tree_core.specs.texts.Heard.{IsTextRead, read_of}
use Rattle.tree_core.specs.declared.texts.fault.ReadFault.{ReadFault}
use Rattle.tree_core.specs.declared.texts.fault.ReadFault.TheVariants.{Absent}
use Rattle.policy_core.specs.declared.exceptions.ExceptionsHeard.{ExceptionsHeard}
use Rattle.policy_core.specs.declared.exceptions.ExceptionsHeard.TheVariants.{NoPath, ThePolicy, Heard}

-- what is read of the two files
pub record LoadHeard : Type 0 where
  pub policy : Result (List ℕ) ReadFault
  pub exceptions : Result (List ℕ) ReadFault

-- ---- the exceptions file

-- a file that is found by the path is the policy, and is not read for a second time
abbrev pub exceptions_at : Option ℕ → List ℕ → Result (List ℕ) ReadFault → ExceptionsHeard
exceptions_at (Some id) path text = ThePolicy path
exceptions_at None path text = Heard path text

-- what is read of the exceptions file, where the policy's file is the last of these
abbrev pub exceptions_heard : List File → Option (List ℕ) → Result (List ℕ) ReadFault → ExceptionsHeard
exceptions_heard files None text = NoPath
exceptions_heard files (Some path) text = exceptions_at (file_id_at files path) path text

-- ---- the policy's file, by what a tree answered

-- One call is made, the read of the policy's file, and its answer says this. Where there is no path none is made, and
-- the policy is absent.
abbrev pub IsPolicyRead : ℕ → ℕ → List Call → List Call → Option (List ℕ) → Result (List ℕ) ReadFault → Type 0
IsPolicyRead begun after old new None told = (told ≡ Err Absent) × (new ≡ old)
IsPolicyRead begun after old new (Some path) told = IsTextRead begun after old new path told

-- where memory was wanting, that call was made, whatever was answered, or none
abbrev pub MayReadPolicy : List Call → List Call → Option (List ℕ) → Type 0
MayReadPolicy old new None = new ≡ old
MayReadPolicy old new (Some path) = (new ≡ old) ⊎ ((answer : CallAnswer) × (new ≡ old ++ read_of path answer ∷ []))

-- ---- the exceptions file, by what a tree answered

-- A file that is found by the path is the policy, and no call is made. Else one call is made, the read of the path, and
-- its answer says this.
abbrev pub IsReadAt : ℕ → ℕ → List Call → List Call → Option ℕ → List ℕ → ExceptionsHeard → Type 0
IsReadAt before after old new (Some policy) path hearing = (hearing ≡ ThePolicy path) × (new ≡ old)
IsReadAt before after old new None path hearing =
    (text : Result (List ℕ) ReadFault) × (hearing ≡ Heard path text) × IsTextRead before after old new path text

-- the same where there may be no path
abbrev pub IsReadOf : ℕ → ℕ → List Call → List Call → List File → Option (List ℕ) → ExceptionsHeard → Type 0
IsReadOf before after old new files None hearing = (hearing ≡ NoPath) × (new ≡ old)
IsReadOf before after old new files (Some path) hearing =
    IsReadAt before after old new (file_id_at files path) path hearing

-- where memory was wanting, that call was made, whatever was answered, or none
abbrev pub MayReadAt : List Call → List Call → Option ℕ → List ℕ → Type 0
MayReadAt old new (Some policy) path = new ≡ old
MayReadAt old new None path = (new ≡ old) ⊎ ((answer : CallAnswer) × (new ≡ old ++ read_of path answer ∷ []))

abbrev pub MayReadOf : List Call → List Call → List File → Option (List ℕ) → Type 0
MayReadOf old new files None = new ≡ old
MayReadOf old new files (Some path) = MayReadAt old new (file_id_at files path) path
