use Rattle.run_list_text.proofs.PendingLemmas.{front_of_more, last_cut, of_refusal, on_err, on_ok, written_more}
use Rattle.run_list_text.proofs.lines.write_lines.Goals as goal

pub returns-in_err-add_all-clause-err : goal.returns-in_err-add_all-clause-err
returns-in_err-add_all-clause-err g c = of_refusal c.from_residual.result _ (front_of_more _ _ _ c.args.last.now c.in_err-add_all.ensures.err)

pub returns-clause-ok : goal.returns-clause-ok
returns-clause-ok g c = on_ok c.add_last.result _ _ (written_more _ _ _ _ _ c.in_ok-add_all.ensures.ok c.args.last.now) c.add_last.ensures.ok

pub returns-clause-err : goal.returns-clause-err
returns-clause-err g c = on_err c.add_last.result _ _ (last_cut _ _ _ _ _ c.in_ok-add_all.ensures.ok c.args.last.now) c.add_last.ensures.err
