-- The two facts on walks: one edge more is a walk to its end, and a walk stays among what its edges lead to.
use Rattle.std.proofs.Common.{◌≡◌, ℕ, List, [], ◌∷◌, ◌++◌, Option, refl, sym, ◌∙◌, subst}
use Rattle.std.specs.List.{AllByRecursion}
use Rattle.std.proofs.lemmas.List.Elements.{All-nil, All-push, recursion_from_All}
use Rattle.graph_core.specs.declared.edge.DepKind.{DepKind}
use Rattle.graph_core.specs.Metadata.{Graph}
use Rattle.graph_core.specs.selection.Choice.{Choice}
use Rattle.graph_core.specs.selection.Roots.{IsRoot}
use Rattle.graph_core.specs.selection.Walks.{Step, IsWalk, MayBeTaken, Reached}

pub walk-push : (from : List ℕ) (steps : List Step) (mid : List ℕ) (step : Step) → IsWalk from steps mid → step.from ≡ mid
    → IsWalk from (steps ++ step ∷ []) step.to
walk-push from [] mid step walk begins = (begins ∙ sym walk, refl)
walk-push from (first ∷ steps) mid step walk begins = (walk.0, walk-push first.to steps mid step walk.1 begins)

module _ (graph : Graph) (choice : Choice) (named : Option DepKind) where
  pub reached-root : (id : List ℕ) → IsRoot graph choice id → Reached graph choice named id
  reached-root id root = record { root = id; begins = root; steps = []; walk = refl; taken = All-nil (MayBeTaken graph choice named) }

  pub reached-more : (id : List ℕ) (step : Step) → Reached graph choice named id → step.from ≡ id → MayBeTaken graph choice named step
      → Reached graph choice named step.to
  reached-more id step reached begins taken = record {
    root = reached.root;
    begins = reached.begins;
    steps = reached.steps ++ step ∷ [];
    walk = walk-push reached.root reached.steps id step reached.walk begins;
    taken = All-push (MayBeTaken graph choice named) reached.steps step reached.taken taken;
  }

  module _ (Marked : List ℕ → Type 0)
      (closed : (step : Step) → MayBeTaken graph choice named step → Marked step.from → Marked step.to) where
    walk-stays : (steps : List Step) (from to : List ℕ) → IsWalk from steps to → AllByRecursion (MayBeTaken graph choice named) steps
        → Marked from → Marked to
    walk-stays [] from to walk taken here = subst Marked walk here
    walk-stays (step ∷ steps) from to walk taken here =
        walk-stays steps step.to to walk.1 taken.1 (closed step taken.0 (subst Marked (sym walk.0) here))

    pub reached-stays : ((id : List ℕ) → IsRoot graph choice id → Marked id) → (id : List ℕ) → Reached graph choice named id → Marked id
    reached-stays roots id reached =
        walk-stays reached.steps reached.root id reached.walk
        (recursion_from_All (MayBeTaken graph choice named) reached.steps reached.taken) (roots reached.root reached.begins)
