-- Each end of `metadata_found`: the policy, the levels, the metadata.
use Rattle.std.proofs.Common.{refl, sym, subst, arith}
use Rattle.std.proofs.lemmas.Result.{err_from_is_err_and}
use Rattle.tree_core.proofs.MadeLemmas.{some-later}
use Rattle.policy_core.specs.Places.{PolicyStands}
use Rattle.policy_core.specs.declared.valid.policy.ValidConfig.{ValidConfig}
use Rattle.run_context.specs.Asked.{IsMetadataAsked, choice_asked}
use Rattle.run_found.specs.Error.{cause_of, error_of_krates}
use Rattle.run_found.specs.Finds.{policy_hearing}
use Rattle.run_found.specs.Hearing.{tree_seen}
use Rattle.run_found.specs.Written.{sink_seen}
use Rattle.run_found.specs.Gathering.{NoCratesBy}
use Rattle.run_found.proofs.CarriedLemmas.{specs_carried}
use Rattle.run_found.proofs.EndLemmas.{counts_at}
use Rattle.run_found.proofs.StageLemmas.{carried_error, no_crates_by}
use Rattle.run_found.proofs.StepLemmas.{counts_from}
use Rattle.run_command.specs.Crates.{options_of}
use Rattle.run_command.specs.Found.{left_by}
use Rattle.run_command.specs.Given.{command_arguments_of}
use Rattle.run_command.proofs.CarriedLemmas.{carried_behind, path_carried}
use Rattle.run_command.proofs.CountLemmas.{krates_counts, override_counts, stands_at}
use Rattle.run_command.proofs.MetadataLemmas.{metadata_read, none_gathered}
use Rattle.run_command.proofs.StopLemmas.{krates_ends, metadata_are, policy_ends, twice_ends}
use Rattle.run_command.proofs.crates.metadata_found.Goals as goal

pub returns-in_err-loaded-clause-found : goal.returns-in_err-loaded-clause-found
returns-in_err-loaded-clause-found g c match_of =
    let given = command_arguments_of (g.C.Catalog.lists c.args.catalog.now) match_of c.args.log_ctx c.args.context.now (options_of c.args.use_of.now) in
    let tree = tree_seen (g.T.Tree.content c.args.tree.now) (g.T.Tree.content c.policy_found.new.tree) (g.T.Tree.fault_count c.args.tree.now) (g.T.Tree.fault_count c.policy_found.new.tree)
    (g.T.Tree.trace c.args.tree.now) (g.T.Tree.trace c.policy_found.new.tree) in
    let err = sink_seen (g.S.Sink.written c.args.err.now) (g.S.Sink.written c.policy_found.new.sink) (g.S.Sink.fault_count c.args.err.now) (g.S.Sink.fault_count c.policy_found.new.sink) in
    let p = err_from_is_err_and c.from_residual.result c.from_residual.ensures.1 in
    rw (p.1, p.2)
    (policy_ends given tree err c.policy_found.new.files c.in_err-loaded.field-0.0 c.in_err-loaded.ensures.found)

pub returns-in_err-overrides-clause-found : goal.returns-in_err-overrides-clause-found
returns-in_err-overrides-clause-found g c match_of =
    let given = command_arguments_of (g.C.Catalog.lists c.args.catalog.now) match_of c.args.log_ctx c.args.context.now (options_of c.args.use_of.now) in
    let tree = tree_seen (g.T.Tree.content c.args.tree.now) (g.T.Tree.content c.policy_found.new.tree) (g.T.Tree.fault_count c.args.tree.now) (g.T.Tree.fault_count c.policy_found.new.tree)
    (g.T.Tree.trace c.args.tree.now) (g.T.Tree.trace c.policy_found.new.tree) in
    let err = sink_seen (g.S.Sink.written c.args.err.now) (g.S.Sink.written c.policy_found.new.sink) (g.S.Sink.fault_count c.args.err.now) (g.S.Sink.fault_count c.policy_found.new.sink) in
    let p = err_from_is_err_and c.from_residual-in_err-overrides.result c.from_residual-in_err-overrides.ensures.1 in
    rw (p.1, p.2)
    (twice_ends given tree err c.policy_found.new.files c.in_ok-loaded.loaded c.in_ok-loaded.ensures.found c.in_err-overrides.field-0.0 c.in_err-overrides.ensures.twice)

pub returns-in_err-asked-clause-found : goal.returns-in_err-asked-clause-found
returns-in_err-asked-clause-found g c match_of =
    let given = command_arguments_of (g.C.Catalog.lists c.args.catalog.now) match_of c.args.log_ctx c.args.context.now (options_of c.args.use_of.now) in
    let begun = g.T.Tree.fault_count c.args.tree.now in
    let mid = g.T.Tree.fault_count c.policy_found.new.tree in
    let after = g.T.Tree.fault_count c.metadata_left.new.tree in
    let middle = g.T.Tree.content c.policy_found.new.tree in
    let tells = g.T.Tree.content c.metadata_left.new.tree in
    let between = g.T.Tree.trace c.policy_found.new.tree in
    let more = g.T.Tree.trace c.metadata_left.new.tree in
    let err = sink_seen (g.S.Sink.written c.args.err.now) (g.S.Sink.written c.policy_found.new.sink) (g.S.Sink.fault_count c.args.err.now) (g.S.Sink.fault_count c.policy_found.new.sink) in
    let policy = c.in_ok-loaded.loaded in
    let finds = c.in_ok-loaded.ensures.found in
    let error = c.in_err-asked.field-0.0 in
    let at = path_carried c.args.context.now c.requires.carried in
    let choice = choice_asked c.args.context.now (left_by c.args.use_of.now.with_flags policy.graph) in
    let way = tree_seen (g.T.Tree.content c.args.tree.now) middle begun mid (g.T.Tree.trace c.args.tree.now) between in
    let carried = carried_behind c.args.context.now policy.graph.exclude c.requires.carried (specs_carried given.request (policy_hearing way finds.heard) finds.found policy finds.is finds.valid) in
    let is_carried = carried_error c.args.context.now policy.graph.exclude error carried c.in_err-asked.ensures.refused in
    let read = subst (λ n. NoCratesBy choice (tree_seen middle tells mid after between more) n at.0 error) c.faults-begun.ensures
    (no_crates_by choice middle tells mid after between more c.faults-begun.result at.0 c.in_err-asked.ensures.made error is_carried (none_gathered choice c.faults-begun.result after between more at.0 error (c.in_err-asked.ensures.read at.0 at.1 carried))) in
    let p = err_from_is_err_and c.from_residual-in_err-asked.result c.from_residual-in_err-asked.ensures.1 in
    rw (p.1, p.2)
    (krates_ends given c.in_ok-overrides.ensures.taken at.0 at.1 begun mid after (g.T.Tree.content c.args.tree.now) middle tells (g.T.Tree.trace c.args.tree.now) between more
    err c.policy_found.new.files policy finds error is_carried read)

pub returns-clause-found : goal.returns-clause-found
returns-clause-found g c match_of =
    let given = command_arguments_of (g.C.Catalog.lists c.args.catalog.now) match_of c.args.log_ctx c.args.context.now (options_of c.args.use_of.now) in
    let begun = g.T.Tree.fault_count c.args.tree.now in
    let mid = g.T.Tree.fault_count c.policy_found.new.tree in
    let after = g.T.Tree.fault_count c.metadata_left.new.tree in
    let middle = g.T.Tree.content c.policy_found.new.tree in
    let tells = g.T.Tree.content c.metadata_left.new.tree in
    let between = g.T.Tree.trace c.policy_found.new.tree in
    let more = g.T.Tree.trace c.metadata_left.new.tree in
    let err = sink_seen (g.S.Sink.written c.args.err.now) (g.S.Sink.written c.policy_found.new.sink) (g.S.Sink.fault_count c.args.err.now) (g.S.Sink.fault_count c.policy_found.new.sink) in
    let policy = c.in_ok-loaded.loaded in
    let finds = c.in_ok-loaded.ensures.found in
    let asked = c.in_ok-asked.asked in
    let at = path_carried c.args.context.now c.requires.carried in
    let leaves = left_by c.args.use_of.now.with_flags policy.graph in
    let way = tree_seen (g.T.Tree.content c.args.tree.now) middle begun mid (g.T.Tree.trace c.args.tree.now) between in
    let carried = carried_behind c.args.context.now policy.graph.exclude c.requires.carried (specs_carried given.request (policy_hearing way finds.heard) finds.found policy finds.is finds.valid) in
    let reads = subst (λ n. IsMetadataAsked c.args.context.now leaves n after between more at.0 asked) c.faults-begun.ensures
    (metadata_read c.args.context.now leaves c.faults-begun.result after between more at.0 asked (c.in_ok-asked.ensures.read at.0 at.1 carried)) in
    metadata_are given c.in_ok-overrides.ensures.taken at.0 at.1 begun mid after (g.T.Tree.content c.args.tree.now) middle tells (g.T.Tree.trace c.args.tree.now) between more
    err c.policy_found.new.files policy finds c.in_ok-asked.ensures.made asked reads _ c.at_threshold.ensures refl

pub returns-clause-places : goal.returns-clause-places
returns-clause-places g c =
    subst (λ (policy : ValidConfig). PolicyStands c.policy_found.new.files policy) (sym c.at_threshold.ensures)
    (stands_at c.policy_found.new.files c.args.use_of.now.threshold c.in_ok-loaded.loaded.licenses c.in_ok-loaded.ensures.places)

-- ---- what the crates ask for

pub metadata_left-requires : goal.metadata_left-requires
metadata_left-requires g c =
    let then = some-later c.in_ok-loaded.ensures.made in
    let start = c.faults-begun.ensures in
    omega arith

-- ---- the counts are those since the run began

pub returns-in_err-overrides-clause-counts : goal.returns-in_err-overrides-clause-counts
returns-in_err-overrides-clause-counts g c =
    let p = err_from_is_err_and c.from_residual-in_err-overrides.result c.from_residual-in_err-overrides.ensures.1 in
    rw (p.1, p.2)
    (override_counts (g.T.Tree.fault_count c.args.tree.now) (g.T.Tree.fault_count c.args.tree.now) (g.T.Tree.fault_count c.policy_found.new.tree) c.in_err-overrides.field-0.0)

pub returns-in_err-asked-clause-counts : goal.returns-in_err-asked-clause-counts
returns-in_err-asked-clause-counts g c =
    let begun = g.T.Tree.fault_count c.args.tree.now in
    let middle = g.T.Tree.fault_count c.policy_found.new.tree in
    let after = g.T.Tree.fault_count c.metadata_left.new.tree in
    let refused = c.in_err-asked.field-0.0 in
    let then = some-later c.in_ok-loaded.ensures.made in
    let p = err_from_is_err_and c.from_residual-in_err-asked.result c.from_residual-in_err-asked.ensures.1 in
    rw (p.1, p.2)
    (counts_from begun begun middle after (cause_of (error_of_krates refused)) then
    (counts_at begun c.faults-begun.result middle after (cause_of (error_of_krates refused)) c.faults-begun.ensures (krates_counts c.faults-begun.result middle after refused c.in_err-asked.ensures.counts)))
