use Rattle.diag_print.proofs.JsonLemmas.{then, one, last}
use Rattle.diag_stats.proofs.json_line.write_summary.Goals as goal

pub returns : goal.returns
returns c =
    let result = c.end_object.result in
    then result _ _ _ _ _ (one _ _ _ _ c.in_ok-begin_object.ensures)
    (then result _ _ _ _ _ (one _ _ _ _ c.in_ok-key.ensures)
    (then result _ _ _ _ _ c.in_ok-write_checks.ensures
    (then result _ _ _ _ _ (one _ _ _ _ c.in_ok-key-2.ensures)
    (then result _ _ _ _ _ (one _ _ _ _ c.in_ok-string.ensures) (last result _ _ _ c.end_object.ensures)))))
