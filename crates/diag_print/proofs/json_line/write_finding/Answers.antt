use Rattle.diag_print.proofs.JsonLemmas.{then, one, last}
use Rattle.diag_print.proofs.json_line.write_finding.Goals as goal

pub returns : goal.returns
returns c =
    let result = c.end_object.result in
    then result _ _ _ _ _ (one _ _ _ _ c.in_ok-begin_object.ensures)
    (then result _ _ _ _ _ (one _ _ _ _ c.in_ok-key.ensures)
    (then result _ _ _ _ _ c.in_ok-write_fields.ensures
    (then result _ _ _ _ _ c.in_ok-write_text.ensures (last result _ _ _ c.end_object.ensures))))
