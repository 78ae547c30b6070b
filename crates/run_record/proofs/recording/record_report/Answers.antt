use Rattle.std.proofs.Common.{◌∙◌, ap, inr, map, subst}
use Rattle.std.proofs.lemmas.Result.{err_from_is_err_and}
use Rattle.tree_core.specs.Faults.{Gained, GainedPrefix}
use Rattle.check_record.specs.Items.{IsRecord}
use Rattle.check_record.specs.Spelling.{spelled_of}
use Rattle.run_record.specs.Recorded.{item_in}
use Rattle.run_record.proofs.recording.record_report.Goals as goal

pub returns-clause-records : goal.returns-clause-records
returns-clause-records g c =
    let file = c.in_ok-file.ensures in
    record {
      is = subst (λ reports. IsRecord (map item_in reports)) c.items.ensures file.is;
      spelled = subst (Gained (g.O.Sink.written c.args.out.now) (g.O.Sink.written c.write_answer.new.out))
          (c.items-2.ensures ∙ file.spelled ∙ ap (λ reports. spelled_of (map item_in reports)) c.items.ensures) c.in_ok-write_answer.ensures.ok;
      reads_are = c.in_ok-reads.ensures;
    }

pub returns-in_err-write_answer-clause-records : goal.returns-in_err-write_answer-clause-records
returns-in_err-write_answer-clause-records g c =
    let file = c.in_ok-file.ensures in
    let p = err_from_is_err_and c.from_residual-in_err-write_answer.result c.from_residual-in_err-write_answer.ensures.1 in
    rw (p.1, p.2)
    (inr (record {
      is = subst (λ reports. IsRecord (map item_in reports)) c.items.ensures file.is;
      refused = c.in_err-write_answer.ensures.reason;
      front = subst (GainedPrefix (g.O.Sink.written c.args.out.now) (g.O.Sink.written c.write_answer.new.out))
          (c.items-2.ensures ∙ file.spelled ∙ ap (λ reports. spelled_of (map item_in reports)) c.items.ensures) c.in_err-write_answer.ensures.err;
    }))
