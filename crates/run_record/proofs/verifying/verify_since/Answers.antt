use Rattle.std.proofs.Common.{◌∙◌, inl, inr, refl, subst}
use Rattle.std.proofs.lemmas.Result.{err_from_is_err_and}
use Rattle.tree_core.specs.Faults.{GainedPrefix}
use Rattle.run_command.proofs.WrittenLemmas.{write_counts}
use Rattle.run_record.proofs.verifying.verify_since.Goals as goal

pub returns-in_err-crates-clause-verifies : goal.returns-in_err-crates-clause-verifies
returns-in_err-crates-clause-verifies g c =
    let p = err_from_is_err_and c.from_residual.result c.from_residual.ensures.1 in
    rw (p.1, p.2) (inl (c.in_err-crates.ensures.verifies, refl {a = g.O.Sink.written c.args.out.now}))

pub returns-in_err-write_answer-clause-verifies : goal.returns-in_err-write_answer-clause-verifies
returns-in_err-write_answer-clause-verifies g c =
    let p = err_from_is_err_and c.from_residual-in_err-write_answer.result c.from_residual-in_err-write_answer.ensures.1 in
    rw (p.1, p.2)
    (inr (record {
      crates = c.in_ok-crates.crates;
      settles = c.in_ok-crates.ensures.verifies;
      refused = c.in_err-write_answer.ensures.reason;
      front = subst (GainedPrefix (g.O.Sink.written c.args.out.now) (g.O.Sink.written c.write_answer.new.out)) (c.as_bytes.ensures.value ∙ c.answer_words.ensures) c.in_err-write_answer.ensures.err;
    }))

pub returns-in_err-write_answer-clause-counts : goal.returns-in_err-write_answer-clause-counts
returns-in_err-write_answer-clause-counts g c =
    let p = err_from_is_err_and c.from_residual-in_err-write_answer.result c.from_residual-in_err-write_answer.ensures.1 in
    rw (p.1, p.2) (write_counts _ _ c.in_err-write_answer.field-0.0 c.in_err-write_answer.ensures.reason _ _ _)
