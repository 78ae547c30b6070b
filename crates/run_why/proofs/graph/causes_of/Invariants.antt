-- The causes so far.
use Rattle.std.proofs.Common.{◌≡◌, ℕ, ◌<◌, length, Some}
use Rattle.std.specs.Prelude.{slice_get}
use Rattle.graph_core.specs.Krate.{CrateRecord}
use Rattle.graph_core.specs.selection.Choice.{choice_of}
use Rattle.graph_core.specs.selection.Roots.{crates_of}
use Rattle.graph_walk.specs.Unchecked.{UncheckedIs}
use Rattle.run_why.specs.Steps.{cause_at}
use Rattle.run_why.proofs.graph.causes_of.Given as goal

abbrev pub invariant-places : goal.invariant-places
invariant-places l = record {
  counted : length l.causes.items ≡ l.place;
  each : (place : ℕ) (krate : CrateRecord) → place < l.place → slice_get (crates_of l.asked.metadata) place ≡ Some krate
      → UncheckedIs l.asked.metadata (choice_of l.asked.selection) l.asked.own_specs l.include krate (cause_at l.causes.items place);
}
