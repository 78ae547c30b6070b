use Rattle.run_overrides.proofs.LevelLemmas.{packs_kept}
use Rattle.run_overrides.proofs.laws.no_overrides_change_nothing.Goals as goal

pub returns : goal.returns
returns c = λ none packs. packs_kept c.args.levels.now none packs
