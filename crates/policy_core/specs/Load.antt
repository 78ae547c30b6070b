-- What loading a policy whose text was read leaves.
use Rattle.std.specs.Prelude.{◌≡◌, ℕ, List, ◌++◌, length}
use Rattle.diag_core.specs.File.{File}
use Rattle.diag_core.specs.declared.diagnostic.Diagnostic.{Diagnostic}
use Rattle.policy_core.specs.validate.Order.{PutsPolicyInOrder}
use Rattle.policy_core.specs.Heard.{heard_file_of}
use Rattle.policy_core.specs.Policy.{FileNumbers, PolicyFound}
use Rattle.policy_core.specs.declared.exceptions.ExceptionsHeard.{ExceptionsHeard}
use Rattle.policy_core.specs.declared.load.LoadedPolicy.{LoadedPolicy}

-- the files that are known, and the findings so far
pub record Surroundings : Type 0 where
  pub files : List File
  pub found : List Diagnostic

-- what was found is kept, its lists in order, and printed behind the findings so far; a text that was read goes behind
-- the other files
pub record Keeps (it : PolicyFound) (hearing : ExceptionsHeard) (old new : Surroundings)
    (loaded : LoadedPolicy) : Type 0 where
  pub licenses : PutsPolicyInOrder it.licenses loaded.licenses
  pub graph : loaded.graph ≡ it.graph
  pub output : loaded.output ≡ it.output
  pub files : new.files ≡ old.files ++ heard_file_of hearing
  pub found : new.found ≡ old.found ++ it.findings

-- the exceptions file has the next number
abbrev pub numbers_at : ℕ → List File → FileNumbers
numbers_at file files = record { policy = file; exceptions = length files }
