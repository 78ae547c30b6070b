use Rattle.diag_print.proofs.JsonLemmas.{then, one, last}
use Rattle.diag_stats.proofs.json_line.write_stats.Goals as goal

pub returns : goal.returns
returns c =
    let result = c.end_object.result in
    then result _ _ _ _ _ (one _ _ _ _ c.in_ok-begin_object.ensures)
    (then result _ _ _ _ _ c.in_ok-write_count.ensures
    (then result _ _ _ _ _ c.in_ok-write_count-2.ensures
    (then result _ _ _ _ _ c.in_ok-write_count-3.ensures
    (then result _ _ _ _ _ c.in_ok-write_count-4.ensures (last result _ _ _ c.end_object.ensures)))))
