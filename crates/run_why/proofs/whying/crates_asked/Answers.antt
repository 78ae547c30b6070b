-- The metadata is found, and the crates are chosen of it.
use Rattle.std.proofs.Common.{inl, refl}
use Rattle.std.proofs.lemmas.Result.{err_from_is_err_and}
use Rattle.policy_core.specs.Places.{PolicyStands}
use Rattle.policy_core.specs.declared.valid.policy.ValidConfig.{ValidConfig}
use Rattle.diag_core.specs.declared.overrides.DiagnosticOverrides.{DiagnosticOverrides}
use Rattle.run_overrides.specs.Levels.{PutAtLevels}
use Rattle.run_found.specs.Hearing.{tree_seen}
use Rattle.run_found.specs.Written.{sink_seen}
use Rattle.run_command.specs.Carried.{no_levels}
use Rattle.run_command.proofs.MetadataLemmas.{counts_told, kept}
use Rattle.run_why.specs.declared.whying.WhyCrates.{WhyCrates}
use Rattle.run_why.specs.Given.{why_arguments_of}
use Rattle.run_why.proofs.whying.crates_asked.Goals as goal

pub returns-in_err-found-clause-asked : goal.returns-in_err-found-clause-asked
returns-in_err-found-clause-asked g c match_of =
    let p = err_from_is_err_and c.from_residual.result c.from_residual.ensures.1 in
    rw (p.1, p.2) (inl (c.in_err-found.ensures.found match_of))

pub returns-clause-asked : goal.returns-clause-asked
returns-clause-asked g c match_of =
    let tree = tree_seen (g.T.Tree.content c.args.tree.now) (g.T.Tree.content c.metadata_of.new.tree) (g.T.Tree.fault_count c.args.tree.now) (g.T.Tree.fault_count c.metadata_of.new.tree)
    (g.T.Tree.trace c.args.tree.now) (g.T.Tree.trace c.metadata_of.new.tree) in
    let err = sink_seen (g.S.Sink.written c.args.err.now) (g.S.Sink.written c.metadata_of.new.err) (g.S.Sink.fault_count c.args.err.now) (g.S.Sink.fault_count c.metadata_of.new.err) in
    c.chosen_of.ensures.chooses (why_arguments_of (g.C.Catalog.lists c.args.catalog.now) match_of c.args.log_ctx c.args.context.now c.args.words.now) tree err c.metadata_of.new.files refl c.requires.carried
    (c.in_ok-found.ensures.found match_of)

pub returns-clause-places : goal.returns-clause-places
returns-clause-places g c =
    kept (λ (asked : WhyCrates). asked.crates.policy) (λ (policy : ValidConfig). PolicyStands c.metadata_of.new.files policy) c.in_ok-found.found.policy c.chosen_of.result c.chosen_of.ensures.policy c.in_ok-found.ensures.places

pub returns-clause-overrides : goal.returns-clause-overrides
returns-clause-overrides g c =
    kept (λ (asked : WhyCrates). asked.crates.overrides) (λ (overrides : DiagnosticOverrides). PutAtLevels no_levels overrides) c.in_ok-found.found.overrides c.chosen_of.result c.chosen_of.ensures.overrides
    c.in_ok-found.ensures.overrides

pub returns-clause-counts : goal.returns-clause-counts
returns-clause-counts g c = counts_told c.chosen_of.result c.chosen_of.ensures.told _ _ _
