-- What the call answers and leaves that finds a policy.
use Rattle.std.specs.Prelude.{◌≡◌, ℕ, List, [], Option, None, Result, Ok, Err}
use Rattle.tree_core.specs.Faults.{Gained}
use Rattle.tree_core.specs.Call.{CallAnswer}
use Rattle.diag_core.specs.File.{File}
use Rattle.gather_core.specs.Calls.{ReadsOfCrate}
use Rattle.policy_core.specs.declared.load.LoadedPolicy.{LoadedPolicy}
use Rattle.policy_core.specs.Policy.{PolicyFound}
use Rattle.policy_load.specs.Answer.{IsPolicyOf}
use Rattle.tree_core.specs.texts.Cause.{Cause, no_memory, refused_write}
use Rattle.run_found.specs.declared.policy.PolicyRefusal.{PolicyRefusal}
use Rattle.run_found.specs.Error.{cause_of, error_of_policy}
use Rattle.run_found.specs.Found.{LooksEnd, SoughtEnds, exceptions_due, files_loaded, load_told, policy_calls}
use Rattle.run_found.specs.Found.{policy_due, policy_found}
use Rattle.run_found.specs.Given.{RequestArguments}
use Rattle.run_found.specs.Hearing.{RequestHearing, IsReadWhereDue, MadeOn, TreeSeen}
use Rattle.run_found.specs.Written.{TextWritten}

-- what is read up to the policy
pub record PolicyHeard : Type 0 where
  pub sought : List CallAnswer
  pub looks : List CallAnswer
  pub policy : Option CallAnswer
  pub exceptions : Option CallAnswer

-- the same with what is read behind it. What is found of a policy does not depend on that, so each fact below holds of
-- each.
abbrev pub hearing_of : ℕ → PolicyHeard → Option CallAnswer → List ReadsOfCrate → RequestHearing
hearing_of begun heard metadata crates = record {
  begun = begun;
  sought = heard.sought;
  looks = heard.looks;
  policy = heard.policy;
  exceptions = heard.exceptions;
  metadata = metadata;
  crates = crates;
}

abbrev pub policy_hearing : TreeSeen → PolicyHeard → RequestHearing
policy_hearing tree heard = hearing_of tree.count_before heard None []

-- each look and read that was due was made
pub record HearsPolicy (given : RequestArguments) (hearing : RequestHearing) : Type 0 where
  pub looks : LooksEnd given hearing
  pub policy : IsReadWhereDue (policy_due given hearing) hearing.policy
  pub exceptions : IsReadWhereDue (exceptions_due given hearing) hearing.exceptions

-- The calls of what was read were made, each that was due, and no other; a policy was found, and is the one that is
-- answered, its lists in order; the files are those of its load; and what is printed of the load was written.
pub record FindsLoaded (given : RequestArguments) (tree : TreeSeen) (old new : Option (List ℕ)) (files : List File)
    (loaded : LoadedPolicy) : Type 0 where
  pub heard : PolicyHeard
  pub made : MadeOn tree (policy_calls given (policy_hearing tree heard))
  pub due : HearsPolicy given (policy_hearing tree heard)
  pub found : PolicyFound
  pub is : policy_found given (policy_hearing tree heard) ≡ Ok found
  pub valid : IsPolicyOf found loaded
  pub files_are : files ≡ files_loaded given (policy_hearing tree heard)
  pub written : Gained old new (load_told given (policy_hearing tree heard))

-- The calls of what was read were made, and no other; the refusal is the one that it comes to.
pub record FindsRefusal (given : RequestArguments) (tree : TreeSeen) (old new : Option (List ℕ)) (before after : ℕ)
    (refusal : PolicyRefusal) : Type 0 where
  pub heard : PolicyHeard
  pub made : MadeOn tree (policy_calls given (policy_hearing tree heard))
  pub due : HearsPolicy given (policy_hearing tree heard)
  pub is : policy_found given (policy_hearing tree heard) ≡ Err (error_of_policy refusal)
  pub written : TextWritten (load_told given (policy_hearing tree heard)) old new before after
      (cause_of (error_of_policy refusal))

-- among the looks for a policy, among those for an exceptions file, at the read of the policy, or at that of the
-- exceptions file
pub data StopsBeforePolicy (given : RequestArguments) (hearing : RequestHearing) : Type 0 where
  at_sought : hearing.looks ≡ [] → hearing.policy ≡ None → hearing.exceptions ≡ None → StopsBeforePolicy given hearing
  at_looks : SoughtEnds given hearing → hearing.policy ≡ None → hearing.exceptions ≡ None
      → StopsBeforePolicy given hearing
  at_policy : LooksEnd given hearing → hearing.exceptions ≡ None → StopsBeforePolicy given hearing
  at_exceptions : LooksEnd given hearing → IsReadWhereDue (policy_due given hearing) hearing.policy
      → StopsBeforePolicy given hearing

-- Memory was wanting or a write was refused: the calls are those that were due up to some place, and a prefix of what
-- they report was written.
pub record FindsInPart (given : RequestArguments) (tree : TreeSeen) (old new : Option (List ℕ)) (before after : ℕ)
    (cause : Cause) : Type 0 where
  pub heard : PolicyHeard
  pub made : MadeOn tree (policy_calls given (policy_hearing tree heard))
  pub stops : StopsBeforePolicy given (policy_hearing tree heard)
  pub written : TextWritten (load_told given (policy_hearing tree heard)) old new before after cause

abbrev pub FindsBy : RequestArguments → TreeSeen → Option (List ℕ) → Option (List ℕ) → ℕ → ℕ → PolicyRefusal → Cause
    → Type 0
FindsBy given tree old new before after refusal no_memory = FindsInPart given tree old new before after no_memory
FindsBy given tree old new before after refusal (refused_write first last) =
    FindsInPart given tree old new before after (refused_write first last)
FindsBy given tree old new before after refusal _ = FindsRefusal given tree old new before after refusal

abbrev pub FindsPolicy : RequestArguments → TreeSeen → Option (List ℕ) → Option (List ℕ) → ℕ → ℕ → List File
    → Result LoadedPolicy PolicyRefusal → Type 0
FindsPolicy given tree old new before after files (Ok loaded) = FindsLoaded given tree old new files loaded
FindsPolicy given tree old new before after files (Err refusal) =
    FindsBy given tree old new before after refusal (cause_of (error_of_policy refusal))
