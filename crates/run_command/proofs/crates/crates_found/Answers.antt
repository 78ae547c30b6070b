-- The metadata is found, and the crates are chosen from it.
use Rattle.std.proofs.lemmas.Result.{err_from_is_err_and}
use Rattle.policy_core.specs.Places.{PolicyStands}
use Rattle.policy_core.specs.declared.valid.policy.ValidConfig.{ValidConfig}
use Rattle.diag_core.specs.declared.overrides.DiagnosticOverrides.{DiagnosticOverrides}
use Rattle.run_overrides.specs.Levels.{PutAtLevels}
use Rattle.run_found.specs.Hearing.{tree_seen}
use Rattle.run_found.specs.Written.{sink_seen}
use Rattle.run_command.specs.declared.crates.CratesFound.{CratesFound}
use Rattle.run_command.specs.Crates.{options_of}
use Rattle.run_command.specs.Given.{command_arguments_of}
use Rattle.run_command.proofs.MetadataLemmas.{chosen_found, counts_told, kept}
use Rattle.run_command.proofs.crates.crates_found.Goals as goal

pub returns-in_err-found-clause-found : goal.returns-in_err-found-clause-found
returns-in_err-found-clause-found g c match_of =
    let p = err_from_is_err_and c.from_residual.result c.from_residual.ensures.1 in
    rw (p.1, p.2) (c.in_err-found.ensures.found match_of)

pub returns-clause-found : goal.returns-clause-found
returns-clause-found g c match_of =
    let given = command_arguments_of (g.C.Catalog.lists c.args.catalog.now) match_of c.args.log_ctx c.args.context.now (options_of c.args.use_of.now) in
    let tree = tree_seen (g.T.Tree.content c.args.tree.now) (g.T.Tree.content c.metadata_found.new.tree) (g.T.Tree.fault_count c.args.tree.now) (g.T.Tree.fault_count c.metadata_found.new.tree)
    (g.T.Tree.trace c.args.tree.now) (g.T.Tree.trace c.metadata_found.new.tree) in
    let err = sink_seen (g.S.Sink.written c.args.err.now) (g.S.Sink.written c.metadata_found.new.err) (g.S.Sink.fault_count c.args.err.now) (g.S.Sink.fault_count c.metadata_found.new.err) in
    let files = c.metadata_found.new.files in
    chosen_found given tree err files c.in_ok-found.found c.crates_of.result (c.crates_of.ensures.found given tree err files (c.in_ok-found.ensures.found match_of))

pub returns-clause-places : goal.returns-clause-places
returns-clause-places g c =
    kept (λ (crates : CratesFound). crates.policy) (λ (policy : ValidConfig). PolicyStands c.metadata_found.new.files policy) c.in_ok-found.found.policy c.crates_of.result c.crates_of.ensures.policy c.in_ok-found.ensures.places

pub returns-clause-overrides : goal.returns-clause-overrides
returns-clause-overrides g c =
    kept (λ (crates : CratesFound). crates.overrides) (λ (overrides : DiagnosticOverrides). PutAtLevels c.args.use_of.now.levels.now overrides) c.in_ok-found.found.overrides c.crates_of.result
    c.crates_of.ensures.overrides c.in_ok-found.ensures.overrides

pub returns-clause-counts : goal.returns-clause-counts
returns-clause-counts g c = counts_told c.crates_of.result c.crates_of.ensures.told _ _ _
