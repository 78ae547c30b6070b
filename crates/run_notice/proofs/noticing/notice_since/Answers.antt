use Rattle.std.proofs.Common.{inl, refl}
use Rattle.std.proofs.lemmas.Result.{err_from_is_err_and}
use Rattle.run_found.specs.Hearing.{tree_seen}
use Rattle.run_found.specs.Written.{sink_seen}
use Rattle.run_command.specs.Carried.{plain_options}
use Rattle.run_command.specs.Given.{command_arguments_of}
use Rattle.check_notice.specs.Written.{notice_text}
use Rattle.run_notice.proofs.NoticeLemmas.{write_notice_counts, written_err}
use Rattle.run_notice.proofs.noticing.notice_since.Goals as goal

pub returns-in_err-noticed-clause-notices : goal.returns-in_err-noticed-clause-notices
returns-in_err-noticed-clause-notices g c =
    let p = err_from_is_err_and c.from_residual.result c.from_residual.ensures.1 in
    rw (p.1, p.2) (inl (c.in_err-noticed.ensures.finds, refl {a = g.O.Sink.written c.args.out.now}))

pub returns-in_err-write_notice-clause-notices : goal.returns-in_err-write_notice-clause-notices
returns-in_err-write_notice-clause-notices g c =
    let log = c.args.log_ctx in
    let context = c.args.context.now in
    let given = command_arguments_of (g.C.Catalog.lists c.args.catalog.now) (g.I.Identifier.match_of c.args.identifier.now) log context (plain_options log context) in
    let tree = tree_seen (g.T.Tree.content c.args.tree.now) (g.T.Tree.content c.found_notice.new.tree) (g.T.Tree.fault_count c.args.tree.now) (g.T.Tree.fault_count c.found_notice.new.tree)
    (g.T.Tree.trace c.args.tree.now) (g.T.Tree.trace c.found_notice.new.tree) in
    let err = sink_seen (g.S.Sink.written c.args.err.now) (g.S.Sink.written c.found_notice.new.err) (g.S.Sink.fault_count c.args.err.now) (g.S.Sink.fault_count c.found_notice.new.err) in
    let out = sink_seen (g.O.Sink.written c.args.out.now) (g.O.Sink.written c.write_notice.new.out) (g.O.Sink.fault_count c.args.out.now) (g.O.Sink.fault_count c.write_notice.new.out) in
    let p = err_from_is_err_and c.from_residual-in_err-write_notice.result c.from_residual-in_err-write_notice.ensures.1 in
    rw (p.1, p.2)
    (written_err (g.I.TextLookup.text_of c.args.identifier.now) given tree err out c.in_ok-noticed.noticed c.in_ok-noticed.ensures.finds c.in_err-write_notice.field-0.0 c.in_err-write_notice.ensures.writes)

pub returns-in_err-write_notice-clause-counts : goal.returns-in_err-write_notice-clause-counts
returns-in_err-write_notice-clause-counts g c =
    let p = err_from_is_err_and c.from_residual-in_err-write_notice.result c.from_residual-in_err-write_notice.ensures.1 in
    rw (p.1, p.2) (write_notice_counts (notice_text c.in_ok-noticed.noticed.notice) _ c.in_err-write_notice.field-0.0 c.in_err-write_notice.ensures.writes _ _ _)

pub returns-clause-notices : goal.returns-clause-notices
returns-clause-notices g c = (c.in_ok-noticed.ensures.finds, c.in_ok-write_notice.ensures.writes)
