use Rattle.std.proofs.Common.{◌∙◌, subst}
use Rattle.std.proofs.lemmas.Result.{IfOk-weaker}
use Rattle.run_overrides.specs.Levels.{PutAtLevels}
use Rattle.run_overrides.specs.Overrides.{AreAsked, StandOnce}
use Rattle.run_overrides.specs.Put.{AreSet}
use Rattle.run_overrides.proofs.LevelLemmas.{packs_same}
use Rattle.run_overrides.proofs.PutLemmas.{asked_levels}
use Rattle.run_overrides.proofs.overrides.overrides_of.Goals as goal

pub returns-clause-level : goal.returns-clause-level
returns-clause-level c =
    let levels = c.args.levels.now in
    let same = c.items-2.ensures ∙ c.in_ok-items.ensures in
    IfOk-weaker c.overrides_by.result (AreSet c.items-2.result.now) (AreAsked levels)
    (λ overrides set. asked_levels levels overrides (subst (λ items. AreSet items overrides) same set)) c.overrides_by.ensures.ok

pub returns-clause-once : goal.returns-clause-once
returns-clause-once c = IfOk-weaker c.overrides_by.result (AreSet c.items-2.result.now) StandOnce (λ overrides set. set.once) c.overrides_by.ensures.ok

pub returns-clause-packs : goal.returns-clause-packs
returns-clause-packs c =
    IfOk-weaker c.overrides_by.result (AreAsked c.args.levels.now) (PutAtLevels c.args.levels.now) (λ overrides asked. packs_same c.args.levels.now overrides asked) (returns-clause-level c)
