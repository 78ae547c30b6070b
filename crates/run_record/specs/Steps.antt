-- What the steps of verifying answer.
use Rattle.std.specs.Prelude.{◌≡◌, ℕ, List, [], ◌∷◌, Some, Result}
use Rattle.tree_core.specs.Call.{CallAnswer}
use Rattle.tree_core.specs.Trace.{fault_behind}
use Rattle.tree_core.specs.texts.Heard.{read_of, text_answered}
use Rattle.tree_core.specs.declared.texts.fault.ReadFault.{ReadFault}
use Rattle.policy_core.specs.declared.valid.policy.ValidConfig.{ValidConfig}
use Rattle.gather_core.specs.declared.summary.KrateLicense.{KrateLicense}
use Rattle.run_found.specs.declared.error.Error.{Error}
use Rattle.run_found.specs.Hearing.{MadeOn, TreeSeen}
use Rattle.run_record.specs.declared.verdicts.VerifiedCrates.{VerifiedCrates}
use Rattle.run_record.specs.Verified.{Tells}

-- it is reported so, whatever answer lets this be read of the file
abbrev pub TellsHeard : ValidConfig → List KrateLicense → Result (List ℕ) ReadFault → Result VerifiedCrates Error
    → Type 0
TellsHeard policy licenses heard result =
    (count : ℕ) (answer : CallAnswer) → text_answered count (fault_behind count answer) answer ≡ Some heard
    → Tells result policy licenses count answer

-- the file was read, and no other call was made
pub record IsRead (policy : ValidConfig) (licenses : List KrateLicense) (path : List ℕ) (tree : TreeSeen)
    (result : Result VerifiedCrates Error) : Type 0 where
  pub answer : CallAnswer
  pub made : MadeOn tree (read_of path answer ∷ [])
  pub tells : Tells result policy licenses tree.count_before answer
