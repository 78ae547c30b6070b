-- A run is its answer, and behind a refusal the line of it.
use Rattle.std.proofs.Common.{subst, sym}
use Rattle.run_found.specs.Hearing.{tree_seen}
use Rattle.run_found.specs.Written.{sink_seen}
use Rattle.deny_run.specs.Given.{run_arguments_of}
use Rattle.deny_run.specs.Run.{IsRun, outcome_of}
use Rattle.deny_run.specs.Seen.{run_seen}
use Rattle.deny_run.proofs.OutcomeLemmas.{is_run}
use Rattle.deny_run.proofs.run.run.Goals as goal

pub returns : goal.returns
returns g c =
    let given = run_arguments_of (g.C.Catalog.lists c.args.catalog.now) (g.I.Identifier.match_of c.args.identifier.now) (g.I.TextLookup.text_of c.args.identifier.now) c.args.words.now c.args.cwd.now in
    let tree = tree_seen (g.T.Tree.content c.args.tree.now) (g.T.Tree.content c.answer_words-request.new.tree) (g.T.Tree.fault_count c.args.tree.now) (g.T.Tree.fault_count c.answer_words-request.new.tree)
    (g.T.Tree.trace c.args.tree.now) (g.T.Tree.trace c.answer_words-request.new.tree) in
    let out = sink_seen (g.O.Sink.written c.args.out.now) (g.O.Sink.written c.answer_words-request.new.out) (g.O.Sink.fault_count c.args.out.now) (g.O.Sink.fault_count c.answer_words-request.new.out) in
    let err = sink_seen (g.E.Sink.written c.args.err.now) (g.E.Sink.written c.end_of-ended.new.err) (g.E.Sink.fault_count c.args.err.now) (g.E.Sink.fault_count c.end_of-ended.new.err) in
    let state = run_seen tree out err in
    let answered = c.answer_words-request.result in
    let is = is_run given state answered (g.E.Sink.written c.answer_words-request.new.err) (g.E.Sink.fault_count c.answer_words-request.new.err) c.answer_words-request.ensures.err_later c.end_of-ended.ensures.later
    c.answer_words-request.ensures.out_later c.answer_words-request.ensures.answered c.end_of-ended.ensures.line in
    subst (IsRun given state) (sym c.outcome_of.ensures) (subst (λ ended. IsRun given state (outcome_of answered.request ended)) (sym c.end_of-ended.ensures.ended) is)
