-- What is shown or reported where words have no request.
use Rattle.std.proofs.Common.{[], refl, subst}
use Rattle.tree_core.proofs.MadeLemmas.{made_none}
use Rattle.run_request.specs.Given.{IsGiven}
use Rattle.run_request.specs.declared.read.CliAnswer.{CliAnswer}
use Rattle.run_found.specs.Hearing.{tree_seen}
use Rattle.run_found.specs.Written.{sink_seen}
use Rattle.deny_run.specs.Given.{run_arguments_of}
use Rattle.deny_run.specs.Seen.{IsStill, run_seen}
use Rattle.deny_run.specs.Words.{MayRefuse, MayShow, mistaken}
use Rattle.deny_run.proofs.WordLemmas.{answers_shown, counts_shown, labels_shown, words_mistaken, words_shown}
use Rattle.deny_run.proofs.answer.answer_words.Goals as goal

pub returns-in-Ok-Shown-clause-answered : goal.returns-in-Ok-Shown-clause-answered
returns-in-Ok-Shown-clause-answered g c =
    let given = run_arguments_of (g.C.Catalog.lists c.args.catalog.now) (g.I.Identifier.match_of c.args.identifier.now) (g.I.TextLookup.text_of c.args.identifier.now) c.args.words.now c.args.cwd.now in
    let content = g.T.Tree.content c.args.tree.now in
    let count = g.T.Tree.fault_count c.args.tree.now in
    let calls = g.T.Tree.trace c.args.tree.now in
    let held = g.E.Sink.written c.args.err.now in
    let faults = g.E.Sink.fault_count c.args.err.now in
    let out = sink_seen (g.O.Sink.written c.args.out.now) (g.O.Sink.written c.show.new.out) (g.O.Sink.fault_count c.args.out.now) (g.O.Sink.fault_count c.show.new.out) in
    let state = run_seen (tree_seen content content count count calls calls) out (sink_seen held held faults faults) in
    let still : IsStill state.err = record { silent = refl; count = refl } in
    let may : MayShow given = subst (λ (answer : CliAnswer). IsGiven given.words given.cwd answer) c.in-Ok-Shown.field-0-is c.in-Ok-Shown.ensures.given in
    let answer = c.show.result in
    let own = c.show.ensures in
    record {
      answers = (made_none content count calls, answers_shown given state _ may answer still own.ok own.refused);
      words = words_shown given state _ may answer own.ok own.cause;
      labels = labels_shown given state _ may answer own.ok;
      counts = counts_shown given state [] may count count count answer own.cause;
    }

pub returns-in-Ok-Usage-clause-answered : goal.returns-in-Ok-Usage-clause-answered
returns-in-Ok-Usage-clause-answered g c =
    let given = run_arguments_of (g.C.Catalog.lists c.args.catalog.now) (g.I.Identifier.match_of c.args.identifier.now) (g.I.TextLookup.text_of c.args.identifier.now) c.args.words.now c.args.cwd.now in
    let content = g.T.Tree.content c.args.tree.now in
    let count = g.T.Tree.fault_count c.args.tree.now in
    let calls = g.T.Tree.trace c.args.tree.now in
    let may : MayRefuse given = subst (λ (answer : CliAnswer). IsGiven given.words given.cwd answer) c.in-Ok-Usage.field-0-is c.in-Ok-Usage.ensures.given in
    record {
      answers = (made_none content count calls, mistaken may _ c.write_usage.ensures.written refl refl);
      words = words_mistaken given may;
      labels = tt;
      counts = tt;
    }
