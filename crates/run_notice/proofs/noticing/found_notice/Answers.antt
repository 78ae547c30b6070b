use Rattle.std.proofs.Common.{inl, subst, Ok, Err}
use Rattle.std.proofs.lemmas.Result.{err_from_is_err_and}
use Rattle.run_found.specs.Hearing.{tree_seen}
use Rattle.run_found.specs.Written.{sink_seen}
use Rattle.run_command.specs.Carried.{plain_options}
use Rattle.run_command.specs.Given.{command_arguments_of}
use Rattle.run_command.proofs.CarriedLemmas.{plain_carried, plain_use}
use Rattle.run_check.specs.Judged.{Judges}
use Rattle.run_notice.proofs.NoticeLemmas.{found_by, notice_counts}
use Rattle.run_notice.proofs.noticing.found_notice.Goals as goal

pub judged_since-requires : goal.judged_since-requires
judged_since-requires g c = plain_carried c.args.log_ctx c.args.context.now c.requires

pub returns-in_err-judged-clause-finds : goal.returns-in_err-judged-clause-finds
returns-in_err-judged-clause-finds g c =
    let lists = g.C.Catalog.lists c.args.catalog.now in
    let match_of = g.I.Identifier.match_of c.args.identifier.now in
    let log = c.args.log_ctx in
    let context = c.args.context.now in
    let tree = tree_seen (g.T.Tree.content c.args.tree.now) (g.T.Tree.content c.judged_since.new.tree) (g.T.Tree.fault_count c.args.tree.now) (g.T.Tree.fault_count c.judged_since.new.tree)
    (g.T.Tree.trace c.args.tree.now) (g.T.Tree.trace c.judged_since.new.tree) in
    let err = sink_seen (g.S.Sink.written c.args.err.now) (g.S.Sink.written c.judged_since.new.err) (g.S.Sink.fault_count c.args.err.now) (g.S.Sink.fault_count c.judged_since.new.err) in
    let p = err_from_is_err_and c.from_residual.result c.from_residual.ensures.1 in
    rw (p.1, p.2)
    (inl (subst (λ options. Judges (command_arguments_of lists match_of log context options) tree err (Err c.in_err-judged.field-0.0)) (plain_use log context _ c.no_levels-levels.ensures c.requires)
    c.in_err-judged.ensures.judges))

pub returns-clause-finds : goal.returns-clause-finds
returns-clause-finds g c =
    let lists = g.C.Catalog.lists c.args.catalog.now in
    let match_of = g.I.Identifier.match_of c.args.identifier.now in
    let text_of = g.I.TextLookup.text_of c.args.identifier.now in
    let log = c.args.log_ctx in
    let context = c.args.context.now in
    let judged = c.in_ok-judged.judged in
    let tree = tree_seen (g.T.Tree.content c.args.tree.now) (g.T.Tree.content c.judged_since.new.tree) (g.T.Tree.fault_count c.args.tree.now) (g.T.Tree.fault_count c.judged_since.new.tree)
    (g.T.Tree.trace c.args.tree.now) (g.T.Tree.trace c.judged_since.new.tree) in
    let err = sink_seen (g.S.Sink.written c.args.err.now) (g.S.Sink.written c.judged_since.new.err) (g.S.Sink.fault_count c.args.err.now) (g.S.Sink.fault_count c.judged_since.new.err) in
    let judges = subst (λ options. Judges (command_arguments_of lists match_of log context options) tree err (Ok judged)) (plain_use log context _ c.no_levels-levels.ensures c.requires)
    c.in_ok-judged.ensures.judges in
    found_by text_of (command_arguments_of lists match_of log context (plain_options log context)) (g.T.Tree.content c.args.tree.now) (g.T.Tree.content c.judged_since.new.tree) (g.T.Tree.content c.notice_of_judged.new.tree)
    (g.T.Tree.fault_count c.args.tree.now) (g.T.Tree.fault_count c.judged_since.new.tree) (g.T.Tree.fault_count c.notice_of_judged.new.tree)
    (g.T.Tree.trace c.args.tree.now) (g.T.Tree.trace c.judged_since.new.tree) (g.T.Tree.trace c.notice_of_judged.new.tree) err judged judges c.notice_of_judged.result c.notice_of_judged.ensures

pub returns-clause-counts : goal.returns-clause-counts
returns-clause-counts g c = notice_counts _ _ _ c.notice_of_judged.result c.notice_of_judged.ensures _ _ _
