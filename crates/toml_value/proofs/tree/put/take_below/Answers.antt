use Rattle.std.proofs.Common.{sym, ◌∙◌, refl}
use Rattle.toml_subset.specs.frames.Levels.{found_at}
use Rattle.toml_value.specs.BranchViews.{branches_view}
use Rattle.toml_value.proofs.LevelLemmas.{place_found, missing_from}
use Rattle.toml_value.proofs.tree.put.take_below.Goals as goal

pub below_at-requires-clause-found : goal.below_at-requires-clause-found
below_at-requires-clause-found c =
    let table = c.args.table.now in
    sym (place_found table c.requires.whole c.args.key.now) ∙ sym c.find.ensures ∙ c.in-Some.is

pub returns-in-None-clause-taken : goal.returns-in-None-clause-taken
returns-in-None-clause-taken c =
    let table = c.args.table.now in (
      missing_from (found_at c.args.key.now (branches_view table)) (sym (place_found table c.requires.whole c.args.key.now) ∙ sym c.find.ensures ∙ c.in-None.is),
      refl,
      refl,
      c.new.ensures.empty,
    )
