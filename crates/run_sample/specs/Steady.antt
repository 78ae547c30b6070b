-- A tree of which no call fails.
use Rattle.std.specs.Prelude.{◌≡◌, []}
use Rattle.tree_core.specs.TreeState.{TreeState}

-- no call has failed, and none is named to fail
pub record IsSteady (state : TreeState) : Type 0 where
  pub no_faults : state.faults ≡ 0
  pub no_failing : state.failing ≡ []
