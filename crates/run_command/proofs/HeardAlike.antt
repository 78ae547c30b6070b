-- Two hearings in which the same calls were answered alike find the same.
use Rattle.std.proofs.Common.{◌≡◌, ◌∙◌, ◌⊎◌, ap, ℕ, List, ◌∷◌, Option, Result, Ok}
use Rattle.tree_core.specs.Call as call
use Rattle.tree_core.specs.Call.{CallKind, CallAnswer, Call}
use Rattle.gather_core.specs.Calls.{calls_of_all}
use Rattle.tree_core.specs.declared.texts.fault.ReadFault.{ReadFault}
use Rattle.policy_core.specs.Policy.{PolicyFound}
use Rattle.run_overrides.specs.Twice.{first_twice}
use Rattle.run_found.specs.declared.error.Error.{Error}
use Rattle.run_found.specs.Found.{PolicyAndGraph, files_loaded, graph_heard, metadata_heard, policy_found}
use Rattle.run_found.specs.Hearing.{RequestHearing}
use Rattle.run_found.specs.Steps.{◌>>=◌}
use Rattle.run_found.proofs.HeardAlike as request_alike
use Rattle.run_command.specs.Found.{HearsAllDue, calls_of, input_of, metadata_by, unless_twice}
use Rattle.run_command.specs.Given.{CommandArguments}

-- ---- what is found, by what was read

abbrev asked_by : CommandArguments → Result PolicyFound Error → Result PolicyFound Error
asked_by given found = do
  policy ← found
  once ← unless_twice (first_twice given.options.levels)
  Ok policy

abbrev input_by : Result PolicyFound Error → Result (List ℕ) ReadFault → Result PolicyAndGraph Error
input_by asked metadata = do
  policy ← asked
  graph ← graph_heard metadata
  Ok (record { policy = policy; graph = graph })

-- what is found is the same, and so are the file tables; and so much holds of the calls behind it
pub record FindsAlike (given : CommandArguments) (D : List Call → List Call → Type 0) (one other : RequestHearing) : Type 0 where
  pub input : input_of given one ≡ input_of given other
  pub files : files_loaded given.request one ≡ files_loaded given.request other
  pub crates : D (calls_of_all one.crates) (calls_of_all other.crates)

-- ---- answers that are alike

-- of two lists of calls it holds that calls at the same place, of the same thing and path, are answered alike, but for want of memory
-- in the second
module _ (D : List Call → List Call → Type 0)
    (step : (asked : CallKind) (path : List ℕ) (one other : CallAnswer) (X Y : List Call)
    → D (record { asked = asked; path = path; answer = one } ∷ X) (record { asked = asked; path = path; answer = other } ∷ Y)
    → ((one ≡ other) ⊎ (other ≡ call.no_memory)) × D X Y) where
  module _ (given : CommandArguments) (one other : RequestHearing) (begun : one.begun ≡ other.begun) (first : HearsAllDue given one) (second : HearsAllDue given other) where
    abbrev due_by : Result PolicyFound Error → Option (List ℕ)
    due_by policy = metadata_by given (asked_by given policy)

    pub finds_alike : D (calls_of given one) (calls_of given other) → FindsAlike given D one other
    finds_alike alike =
        let same = request_alike.finds_alike D step given.request due_by one other begun first.policy second.policy first.metadata second.metadata alike in
        record {
          input = ap (λ policy. input_by (asked_by given policy) (metadata_heard given.request one)) same.policy ∙ ap (input_by (asked_by given (policy_found given.request other))) same.metadata;
          files = same.files;
          crates = same.crates;
        }
