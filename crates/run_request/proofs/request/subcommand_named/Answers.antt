use Rattle.std.proofs.Common.{◌∙◌, sym, subst}
use Rattle.clap.specs.Words.{found_of, rows_of}
use Rattle.run_request.specs.Reading.{AnswersArgs}
use Rattle.run_request.specs.Request.{bill_of}
use Rattle.run_request.proofs.NamedLemmas.{named_bill}
use Rattle.run_request.proofs.request.subcommand_named.Goals as goal

pub returns-in_ok-against : goal.returns-in_ok-against
returns-in_ok-against c =
    let rows = rows_of (found_of c.args.below.now) in
    subst (λ expected. AnswersArgs expected c.bill_of.result) (sym (named_bill c.args.name.now rows c.args.cwd.now (sym c.eq-else-eq-4.ensures ∙ c.if-eq-5.true)))
    (subst (λ against. AnswersArgs (bill_of rows against) c.bill_of.result) c.in_ok-against.ensures c.bill_of.ensures)
