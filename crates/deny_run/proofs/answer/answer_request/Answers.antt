-- What a request is answered is what its command answers.
use Rattle.std.proofs.Common.{refl, subst, sym, ℕ, List, IfOk}
use Rattle.tree_core.proofs.MadeLemmas.{made_none}
use Rattle.run_found.specs.Hearing.{tree_seen}
use Rattle.run_found.specs.Written.{sink_seen}
use Rattle.run_command.specs.Carried.{plain_options}
use Rattle.run_command.specs.Given.{command_asked}
use Rattle.run_command.specs.Prelude.{Runs}
use Rattle.deny_run.specs.declared.outcome.RunEnd.TheVariants.{Billed, Checked, Listed, Noticed, Recorded, Sampled, Told, Verified}
use Rattle.deny_run.specs.Ends.{Answers, HasLabels, VerifiesAs}
use Rattle.deny_run.specs.Seen.{IsStill, run_seen}
use Rattle.deny_run.proofs.EndLemmas.{has_labels, mapped, samples}
use Rattle.deny_run.proofs.answer.answer_request.Goals as goal

pub returns-in-Check-clause-answers : goal.returns-in-Check-clause-answers
returns-in-Check-clause-answers g c =
    let lists = g.C.Catalog.lists c.args.catalog.now in
    let match_of = g.I.Identifier.match_of c.args.identifier.now in
    let text_of = g.I.TextLookup.text_of c.args.identifier.now in
    let tree = tree_seen (g.T.Tree.content c.args.tree.now) (g.T.Tree.content c.check_request-answer.new.tree) (g.T.Tree.fault_count c.args.tree.now) (g.T.Tree.fault_count c.check_request-answer.new.tree) (g.T.Tree.trace c.args.tree.now) (g.T.Tree.trace c.check_request-answer.new.tree) in
    let out = sink_seen (g.O.Sink.written c.args.out.now) (g.O.Sink.written c.check_request-answer.new.out) (g.O.Sink.fault_count c.args.out.now) (g.O.Sink.fault_count c.check_request-answer.new.out) in
    let err = sink_seen (g.E.Sink.written c.args.err.now) (g.E.Sink.written c.check_request-answer.new.err) (g.E.Sink.fault_count c.args.err.now) (g.E.Sink.fault_count c.check_request-answer.new.err) in
    subst (λ command. Answers lists match_of text_of c.args.request.now command (run_seen tree out err) c.map.result) (sym c.in-Check.is)
    (record { value = c.check_request-answer.result; is = mapped Checked c.check_request-answer.result c.map.result c.map.ensures.cases; is_so = c.check_request-answer.ensures.runs })

pub returns-in-List-clause-answers : goal.returns-in-List-clause-answers
returns-in-List-clause-answers g c =
    let lists = g.C.Catalog.lists c.args.catalog.now in
    let match_of = g.I.Identifier.match_of c.args.identifier.now in
    let text_of = g.I.TextLookup.text_of c.args.identifier.now in
    let tree = tree_seen (g.T.Tree.content c.args.tree.now) (g.T.Tree.content c.list_request-answer.new.tree) (g.T.Tree.fault_count c.args.tree.now) (g.T.Tree.fault_count c.list_request-answer.new.tree) (g.T.Tree.trace c.args.tree.now) (g.T.Tree.trace c.list_request-answer.new.tree) in
    let out = sink_seen (g.O.Sink.written c.args.out.now) (g.O.Sink.written c.list_request-answer.new.out) (g.O.Sink.fault_count c.args.out.now) (g.O.Sink.fault_count c.list_request-answer.new.out) in
    let err = sink_seen (g.E.Sink.written c.args.err.now) (g.E.Sink.written c.list_request-answer.new.err) (g.E.Sink.fault_count c.args.err.now) (g.E.Sink.fault_count c.list_request-answer.new.err) in
    subst (λ command. Answers lists match_of text_of c.args.request.now command (run_seen tree out err) c.map-in-List.result) (sym c.in-List.is)
    (record { value = c.list_request-answer.result; is = mapped Listed c.list_request-answer.result c.map-in-List.result c.map-in-List.ensures.cases; is_so = c.list_request-answer.ensures.runs })

pub returns-in-Record-clause-answers : goal.returns-in-Record-clause-answers
returns-in-Record-clause-answers g c =
    let lists = g.C.Catalog.lists c.args.catalog.now in
    let match_of = g.I.Identifier.match_of c.args.identifier.now in
    let text_of = g.I.TextLookup.text_of c.args.identifier.now in
    let tree = tree_seen (g.T.Tree.content c.args.tree.now) (g.T.Tree.content c.record_request-answer.new.tree) (g.T.Tree.fault_count c.args.tree.now) (g.T.Tree.fault_count c.record_request-answer.new.tree) (g.T.Tree.trace c.args.tree.now) (g.T.Tree.trace c.record_request-answer.new.tree) in
    let out = sink_seen (g.O.Sink.written c.args.out.now) (g.O.Sink.written c.record_request-answer.new.out) (g.O.Sink.fault_count c.args.out.now) (g.O.Sink.fault_count c.record_request-answer.new.out) in
    let err = sink_seen (g.E.Sink.written c.args.err.now) (g.E.Sink.written c.record_request-answer.new.err) (g.E.Sink.fault_count c.args.err.now) (g.E.Sink.fault_count c.record_request-answer.new.err) in
    subst (λ command. Answers lists match_of text_of c.args.request.now command (run_seen tree out err) c.map-in-Record.result) (sym c.in-Record.is)
    (record { value = c.record_request-answer.result; is = mapped Recorded c.record_request-answer.result c.map-in-Record.result c.map-in-Record.ensures.cases; is_so = c.record_request-answer.ensures.runs })

pub returns-in-Verify-clause-answers : goal.returns-in-Verify-clause-answers
returns-in-Verify-clause-answers g c =
    let lists = g.C.Catalog.lists c.args.catalog.now in
    let match_of = g.I.Identifier.match_of c.args.identifier.now in
    let text_of = g.I.TextLookup.text_of c.args.identifier.now in
    let tree = tree_seen (g.T.Tree.content c.args.tree.now) (g.T.Tree.content c.verify_request-answer.new.tree) (g.T.Tree.fault_count c.args.tree.now) (g.T.Tree.fault_count c.verify_request-answer.new.tree) (g.T.Tree.trace c.args.tree.now) (g.T.Tree.trace c.verify_request-answer.new.tree) in
    let out = sink_seen (g.O.Sink.written c.args.out.now) (g.O.Sink.written c.verify_request-answer.new.out) (g.O.Sink.fault_count c.args.out.now) (g.O.Sink.fault_count c.verify_request-answer.new.out) in
    let err = sink_seen (g.E.Sink.written c.args.err.now) (g.E.Sink.written c.verify_request-answer.new.err) (g.E.Sink.fault_count c.args.err.now) (g.E.Sink.fault_count c.verify_request-answer.new.err) in
    subst (λ command. Answers lists match_of text_of c.args.request.now command (run_seen tree out err) c.map-in-Verify.result) (sym c.in-Verify.is)
    (record { value = c.verify_request-answer.result; is = mapped Verified c.verify_request-answer.result c.map-in-Verify.result c.map-in-Verify.ensures.cases; is_so = subst (λ (at : List ℕ). Runs (command_asked lists match_of text_of c.args.request.now (plain_options c.args.request.now.log_ctx c.args.request.now.krate_ctx)) (VerifiesAs at out err) tree err out c.verify_request-answer.result) c.as_path-path.ensures c.verify_request-answer.ensures.runs })

pub returns-in-Bill-clause-answers : goal.returns-in-Bill-clause-answers
returns-in-Bill-clause-answers g c =
    let lists = g.C.Catalog.lists c.args.catalog.now in
    let match_of = g.I.Identifier.match_of c.args.identifier.now in
    let text_of = g.I.TextLookup.text_of c.args.identifier.now in
    let tree = tree_seen (g.T.Tree.content c.args.tree.now) (g.T.Tree.content c.bill_request-answer.new.tree) (g.T.Tree.fault_count c.args.tree.now) (g.T.Tree.fault_count c.bill_request-answer.new.tree) (g.T.Tree.trace c.args.tree.now) (g.T.Tree.trace c.bill_request-answer.new.tree) in
    let out = sink_seen (g.O.Sink.written c.args.out.now) (g.O.Sink.written c.bill_request-answer.new.out) (g.O.Sink.fault_count c.args.out.now) (g.O.Sink.fault_count c.bill_request-answer.new.out) in
    let err = sink_seen (g.E.Sink.written c.args.err.now) (g.E.Sink.written c.bill_request-answer.new.err) (g.E.Sink.fault_count c.args.err.now) (g.E.Sink.fault_count c.bill_request-answer.new.err) in
    subst (λ command. Answers lists match_of text_of c.args.request.now command (run_seen tree out err) c.map-in-Bill.result) (sym c.in-Bill.is)
    (record { value = c.bill_request-answer.result; is = mapped Billed c.bill_request-answer.result c.map-in-Bill.result c.map-in-Bill.ensures.cases; is_so = c.bill_request-answer.ensures.runs })

pub returns-in-Notice-clause-answers : goal.returns-in-Notice-clause-answers
returns-in-Notice-clause-answers g c =
    let lists = g.C.Catalog.lists c.args.catalog.now in
    let match_of = g.I.Identifier.match_of c.args.identifier.now in
    let text_of = g.I.TextLookup.text_of c.args.identifier.now in
    let tree = tree_seen (g.T.Tree.content c.args.tree.now) (g.T.Tree.content c.notice_request-answer.new.tree) (g.T.Tree.fault_count c.args.tree.now) (g.T.Tree.fault_count c.notice_request-answer.new.tree) (g.T.Tree.trace c.args.tree.now) (g.T.Tree.trace c.notice_request-answer.new.tree) in
    let out = sink_seen (g.O.Sink.written c.args.out.now) (g.O.Sink.written c.notice_request-answer.new.out) (g.O.Sink.fault_count c.args.out.now) (g.O.Sink.fault_count c.notice_request-answer.new.out) in
    let err = sink_seen (g.E.Sink.written c.args.err.now) (g.E.Sink.written c.notice_request-answer.new.err) (g.E.Sink.fault_count c.args.err.now) (g.E.Sink.fault_count c.notice_request-answer.new.err) in
    subst (λ command. Answers lists match_of text_of c.args.request.now command (run_seen tree out err) c.map-in-Notice.result) (sym c.in-Notice.is)
    (record { value = c.notice_request-answer.result; is = mapped Noticed c.notice_request-answer.result c.map-in-Notice.result c.map-in-Notice.ensures.cases; is_so = c.notice_request-answer.ensures.runs })

pub returns-in-Why-clause-answers : goal.returns-in-Why-clause-answers
returns-in-Why-clause-answers g c =
    let lists = g.C.Catalog.lists c.args.catalog.now in
    let match_of = g.I.Identifier.match_of c.args.identifier.now in
    let text_of = g.I.TextLookup.text_of c.args.identifier.now in
    let tree = tree_seen (g.T.Tree.content c.args.tree.now) (g.T.Tree.content c.why_request-answer.new.tree) (g.T.Tree.fault_count c.args.tree.now) (g.T.Tree.fault_count c.why_request-answer.new.tree) (g.T.Tree.trace c.args.tree.now) (g.T.Tree.trace c.why_request-answer.new.tree) in
    let out = sink_seen (g.O.Sink.written c.args.out.now) (g.O.Sink.written c.why_request-answer.new.out) (g.O.Sink.fault_count c.args.out.now) (g.O.Sink.fault_count c.why_request-answer.new.out) in
    let err = sink_seen (g.E.Sink.written c.args.err.now) (g.E.Sink.written c.why_request-answer.new.err) (g.E.Sink.fault_count c.args.err.now) (g.E.Sink.fault_count c.why_request-answer.new.err) in
    subst (λ command. Answers lists match_of text_of c.args.request.now command (run_seen tree out err) c.map-in-Why.result) (sym c.in-Why.is)
    (record { value = c.why_request-answer.result; is = mapped Told c.why_request-answer.result c.map-in-Why.result c.map-in-Why.ensures.cases; is_so = c.why_request-answer.ensures.runs })

pub returns-in-Sample-clause-answers : goal.returns-in-Sample-clause-answers
returns-in-Sample-clause-answers g c =
    let lists = g.C.Catalog.lists c.args.catalog.now in
    let match_of = g.I.Identifier.match_of c.args.identifier.now in
    let text_of = g.I.TextLookup.text_of c.args.identifier.now in
    let tree = tree_seen (g.T.Tree.content c.args.tree.now) (g.T.Tree.content c.args.tree.now) (g.T.Tree.fault_count c.args.tree.now) (g.T.Tree.fault_count c.args.tree.now) (g.T.Tree.trace c.args.tree.now) (g.T.Tree.trace c.args.tree.now) in
    let out = sink_seen (g.O.Sink.written c.args.out.now) (g.O.Sink.written c.sample.new.out) (g.O.Sink.fault_count c.args.out.now) (g.O.Sink.fault_count c.sample.new.out) in
    let err = sink_seen (g.E.Sink.written c.args.err.now) (g.E.Sink.written c.args.err.now) (g.E.Sink.fault_count c.args.err.now) (g.E.Sink.fault_count c.args.err.now) in
    let untouched = made_none (g.T.Tree.content c.args.tree.now) (g.T.Tree.fault_count c.args.tree.now) (g.T.Tree.trace c.args.tree.now) in
    let still : IsStill err = record { silent = refl; count = refl } in
    subst (λ command. Answers lists match_of text_of c.args.request.now command (run_seen tree out err) c.map-in-Sample.result) (sym c.in-Sample.is)
    (record { value = c.sample.result; is = mapped Sampled c.sample.result c.map-in-Sample.result c.map-in-Sample.ensures.cases; is_so = (untouched, samples c.in-Sample.size lists match_of out err c.sample.result c.sample.ensures.sampled c.sample.ensures.written c.sample.ensures.policy c.sample.ensures.unfailed c.sample.ensures.complete c.sample.ensures.built_in still) })

pub returns-in-Check-clause-labels : goal.returns-in-Check-clause-labels
returns-in-Check-clause-labels g c =
    subst (λ answer. IfOk answer HasLabels) (sym (mapped Checked c.check_request-answer.result c.map.result c.map.ensures.cases)) (has_labels c.check_request-answer.result c.check_request-answer.ensures.labels)
