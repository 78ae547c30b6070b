-- Where the two files of a request's policy are, by what a tree answered.
use Rattle.std.specs.Prelude.{ℕ, List, Option, ◌⊎◌}
use Rattle.tree_core.specs.Call.{Call}
use Rattle.tree_core.specs.declared.texts.search.SearchError.{SearchError}
use Rattle.run_request.specs.declared.context.KrateContext.{KrateContext}
use Rattle.policy_load.specs.declared.loading.PolicyPaths.{PolicyPaths}
use Rattle.run_context.specs.Paths.{ConfigPathUntil, ExceptionsPathUntil, IsConfigPath, IsExceptionsPath}

-- the policy's path was found, and then the one of its exceptions file
pub record ArePathsAt (context : KrateContext) (old new : List Call) (paths : PolicyPaths) : Type 0 where
  pub between : List Call
  pub config : IsConfigPath context old between paths.policy
  pub exceptions : IsExceptionsPath context between new paths.exceptions

-- the policy's path was found, and the search for its exceptions file was given up
pub record ExceptionsUntil (context : KrateContext) (old new : List Call) (error : SearchError) : Type 0 where
  pub between : List Call
  pub found : Option (List ℕ)
  pub config : IsConfigPath context old between found
  pub until : ExceptionsPathUntil context between new error

-- one of the two searches was given up
abbrev pub PathsUntil : KrateContext → List Call → List Call → SearchError → Type 0
PathsUntil context old new error = ConfigPathUntil context old new error ⊎ ExceptionsUntil context old new error
