-- A call of a tree of which none is named to fail.
use Rattle.std.proofs.Common.{◌≡◌, ◌∙◌, sym, ap, ◌-◌, ◌==◌, map, cond, Result}
use Rattle.std.specs.List.{list_any}
use Rattle.tree_core.specs.Call.{Call}
use Rattle.tree_core.specs.Faults.{count_after, next_count}
use Rattle.tree_core.specs.TreeState.{TreeState, after_call}
use Rattle.tree_core.specs.declared.tree.TreeError.{TreeError}
use Rattle.run_sample.specs.Steady.{IsSteady}

module _ (old new : TreeState) (call : Call) (steady : IsSteady old) (after : new ≡ after_call old call) where
  no_more_faults : new.faults ≡ 0
  no_more_faults =
      ap (λ (state : TreeState). state.faults) after
      ∙ ap (λ failing. cond (list_any (λ n. n == 1) failing) (next_count old.faults) old.faults) steady.no_failing
      ∙ steady.no_faults

  -- it is as steady behind the call
  pub still_steady : IsSteady new
  still_steady = record {
    no_faults = no_more_faults;
    no_failing = ap (λ (state : TreeState). state.failing) after ∙ ap (λ failing. map (λ n. n - 1) failing) steady.no_failing;
  }

  -- and the call did not fail
  pub uncounted : {T : Type 0} (result : Result T TreeError) → new.faults ≡ count_after old.faults result → 0 ≡ count_after 0 result
  uncounted result counts = sym no_more_faults ∙ counts ∙ ap (λ n. count_after n result) steady.no_faults
