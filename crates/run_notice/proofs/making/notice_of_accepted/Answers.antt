use Rattle.std.proofs.lemmas.Result.{err_from_is_err_and}
use Rattle.run_found.specs.Hearing.{seen_between}
use Rattle.run_found.specs.own_names.Given.{texts_given}
use Rattle.run_notice.specs.Steps.{IsMade}
use Rattle.run_notice.proofs.MakingLemmas.{lacks_behind}
use Rattle.run_notice.proofs.making.notice_of_accepted.Goals as goal

pub returns-in-Err-Memory : goal.returns-in-Err-Memory
returns-in-Err-Memory g c =
    let texts = texts_given (g.I.Identifier.match_of c.args.identifier.now) (g.I.TextLookup.text_of c.args.identifier.now) in
    let seen = seen_between g.T.Tree.content g.T.Tree.fault_count g.T.Tree.trace c.args.tree.now c.made_of.new.tree in
    lacks_behind texts c.args.judged seen (IsMade texts c.args.judged c.in_ok-made.field-0) c.requires c.in_ok-made.ensures.made

pub returns-in_err-reads : goal.returns-in_err-reads
returns-in_err-reads g c =
    let texts = texts_given (g.I.Identifier.match_of c.args.identifier.now) (g.I.TextLookup.text_of c.args.identifier.now) in
    let seen = seen_between g.T.Tree.content g.T.Tree.fault_count g.T.Tree.trace c.args.tree.now c.made_of.new.tree in
    let p = err_from_is_err_and c.from_residual-in_err-reads.result c.from_residual-in_err-reads.ensures.1 in
    rw (p.1, p.2)
    (lacks_behind texts c.args.judged seen (IsMade texts c.args.judged c.in_ok-made.field-0) c.requires c.in_ok-made.ensures.made)
