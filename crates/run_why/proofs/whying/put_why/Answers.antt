use Rattle.std.proofs.Common.{◌∙◌, ap, inr, subst}
use Rattle.std.proofs.lemmas.Result.{err_from_is_err_and}
use Rattle.tree_core.specs.Faults.{Gained, GainedPrefix}
use Rattle.run_why.specs.Steps.{joined_texts}
use Rattle.run_why.proofs.whying.put_why.Goals as goal

pub returns-clause-puts : goal.returns-clause-puts
returns-clause-puts g c = record {
  texts = subst (Gained (g.O.Sink.written c.args.out.now) (g.O.Sink.written c.write_answer.new.out)) (c.as_bytes.ensures.value ∙ (c.as_str.ensures.value ∙ (c.in_ok-text.ensures ∙ ap joined_texts c.items.ensures))) c.in_ok-write_answer.ensures.ok;
  reads_are = c.in_ok-reads.ensures;
}

pub returns-in_err-write_answer-clause-puts : goal.returns-in_err-write_answer-clause-puts
returns-in_err-write_answer-clause-puts g c =
    let p = err_from_is_err_and c.from_residual-in_err-write_answer.result c.from_residual-in_err-write_answer.ensures.1 in
    rw (p.1, p.2)
    (inr (record {
      refused = c.in_err-write_answer.ensures.reason;
      front = subst (GainedPrefix (g.O.Sink.written c.args.out.now) (g.O.Sink.written c.write_answer.new.out)) (c.as_bytes.ensures.value ∙ (c.as_str.ensures.value ∙ (c.in_ok-text.ensures ∙ ap joined_texts c.items.ensures))) c.in_err-write_answer.ensures.err;
    }))
