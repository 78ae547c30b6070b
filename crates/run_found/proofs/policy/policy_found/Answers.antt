-- Each end: the searches, the load's refusal, the policy.
use Rattle.std.proofs.Common.{Ok, Err, subst, arith}
use Rattle.std.proofs.lemmas.Result.{err_from_is_err_and}
use Rattle.tree_core.proofs.MadeLemmas.{some-later, some_joined}
use Rattle.tree_core.specs.texts.Cause.{ReadCounts}
use Rattle.tree_core.specs.texts.Search.{search_cause}
use Rattle.policy_load.specs.Answer.{load_cause}
use Rattle.run_found.specs.Given.{request_arguments_of}
use Rattle.run_found.proofs.EndLemmas.{counts_at, ends_at, load_finds, load_refused}
use Rattle.run_found.proofs.SearchLemmas.{search_finds}
use Rattle.run_found.proofs.StepLemmas.{counts_from, same_cause}
use Rattle.run_found.proofs.policy.policy_found.Goals as goal

pub returns-in_err-paths-clause-found : goal.returns-in_err-paths-clause-found
returns-in_err-paths-clause-found g c =
    let given = request_arguments_of (g.C.Catalog.lists c.args.catalog.now) c.args.log_ctx c.args.context.now in
    let begun = g.T.Tree.fault_count c.args.tree.now in
    let after = g.T.Tree.fault_count c.policy_paths.new.tree in
    let count = g.S.Sink.fault_count c.args.sink.now in
    let error = c.in_err-paths.field-0.0 in
    let p = err_from_is_err_and c.from_residual.result c.from_residual.ensures.1 in
    rw (p.1, p.2)
    (search_finds given (g.T.Tree.content c.args.tree.now) (g.T.Tree.content c.policy_paths.new.tree) begun after
    (g.T.Tree.trace c.args.tree.now) (g.T.Tree.trace c.policy_paths.new.tree) c.in_err-paths.ensures.made (g.S.Sink.written c.args.sink.now) count count c.args.files.now
    error c.in_err-paths.ensures.given_up
    (counts_at begun c.faults-begun.result begun after (search_cause error) c.faults-begun.ensures c.in_err-paths.ensures.counts))

pub returns-in_err-loaded-clause-found : goal.returns-in_err-loaded-clause-found
returns-in_err-loaded-clause-found g c =
    let given = request_arguments_of (g.C.Catalog.lists c.args.catalog.now) c.args.log_ctx c.args.context.now in
    let begun = g.T.Tree.fault_count c.args.tree.now in
    let first = g.T.Tree.fault_count c.policy_paths.new.tree in
    let after = g.T.Tree.fault_count c.load.new.tree in
    let between = g.T.Tree.trace c.policy_paths.new.tree in
    let more = g.T.Tree.trace c.load.new.tree in
    let old = g.S.Sink.written c.args.sink.now in
    let new = g.S.Sink.written c.load.new.sink in
    let paths = c.in_ok-paths.paths in
    let error = c.in_err-loaded.field-0.0 in
    let ends = ends_at given.lists c.args.log_ctx paths begun c.faults-begun.result first after between more c.args.files.now c.load.new.files old new (Err error)
    c.faults-begun.ensures c.requires c.in_err-loaded.ensures.reads in
    let p = err_from_is_err_and c.from_residual-in_err-loaded.result c.from_residual-in_err-loaded.ensures.1 in
    rw (p.1, p.2)
    (load_refused given paths (g.T.Tree.trace c.args.tree.now) between more c.in_ok-paths.ensures.paths begun first after
    (g.T.Tree.content c.args.tree.now) (g.T.Tree.content c.policy_paths.new.tree) (g.T.Tree.content c.load.new.tree) c.in_ok-paths.ensures.made c.in_err-loaded.ensures.made
    c.load.new.files old new (g.S.Sink.fault_count c.args.sink.now) (g.S.Sink.fault_count c.load.new.sink) error ends c.in_err-loaded.ensures.writes)

pub returns-clause-found : goal.returns-clause-found
returns-clause-found g c =
    let given = request_arguments_of (g.C.Catalog.lists c.args.catalog.now) c.args.log_ctx c.args.context.now in
    let begun = g.T.Tree.fault_count c.args.tree.now in
    let first = g.T.Tree.fault_count c.policy_paths.new.tree in
    let after = g.T.Tree.fault_count c.load.new.tree in
    let between = g.T.Tree.trace c.policy_paths.new.tree in
    let more = g.T.Tree.trace c.load.new.tree in
    let old = g.S.Sink.written c.args.sink.now in
    let new = g.S.Sink.written c.load.new.sink in
    let paths = c.in_ok-paths.paths in
    let policy = c.in_ok-loaded.loaded in
    let ends = ends_at given.lists c.args.log_ctx paths begun c.faults-begun.result first after between more c.args.files.now c.load.new.files old new (Ok policy)
    c.faults-begun.ensures c.requires c.in_ok-loaded.ensures.reads in
    load_finds given paths (g.T.Tree.trace c.args.tree.now) between more c.in_ok-paths.ensures.paths begun first after
    (g.T.Tree.content c.args.tree.now) (g.T.Tree.content c.policy_paths.new.tree) (g.T.Tree.content c.load.new.tree) c.in_ok-paths.ensures.made c.in_ok-loaded.ensures.made
    c.load.new.files old new (g.S.Sink.fault_count c.args.sink.now) (g.S.Sink.fault_count c.load.new.sink) policy ends

-- ---- the calls and the counts

pub load-requires-clause-begun : goal.load-requires-clause-begun
load-requires-clause-begun g c =
    let start = c.faults-begun.ensures in
    let then = some-later c.in_ok-paths.ensures.made in
    omega arith

pub returns-clause-made : goal.returns-clause-made
returns-clause-made g c = some_joined c.in_ok-paths.ensures.made c.in_ok-loaded.ensures.made

pub returns-in_err-loaded-clause-made : goal.returns-in_err-loaded-clause-made
returns-in_err-loaded-clause-made g c = some_joined c.in_ok-paths.ensures.made c.in_err-loaded.ensures.made

pub returns-in_err-loaded-clause-counts : goal.returns-in_err-loaded-clause-counts
returns-in_err-loaded-clause-counts g c =
    let begun = g.T.Tree.fault_count c.args.tree.now in
    let first = g.T.Tree.fault_count c.policy_paths.new.tree in
    let after = g.T.Tree.fault_count c.load.new.tree in
    let error = c.in_err-loaded.field-0.0 in
    let p = err_from_is_err_and c.from_residual-in_err-loaded.result c.from_residual-in_err-loaded.ensures.1 in
    rw (p.1, p.2)
    (subst (ReadCounts begun begun after) (same_cause error)
    (counts_from begun begun first after (load_cause error) (some-later c.in_ok-paths.ensures.made)
    (counts_at begun c.faults-begun.result first after (load_cause error) c.faults-begun.ensures c.in_err-loaded.ensures.counts)))
