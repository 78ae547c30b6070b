use Rattle.std.proofs.Common.{codes}
use Rattle.diag_print.proofs.JsonLemmas.{then, one, last, text_member, number_member}
use Rattle.diag_print.proofs.json_line.write_label.Goals as goal

pub returns : goal.returns
returns c =
    let result = c.end_object.result in
    then result _ _ _ _ _ (one _ _ _ _ c.in_ok-begin_object.ensures)
    (then result _ _ _ _ _ (number_member _ _ (codes "column") _ _ c.start-place.ensures.column c.in_ok-write_number.ensures)
    (then result _ _ _ _ _ (number_member _ _ (codes "line") _ _ c.start-place.ensures.line c.in_ok-write_number-2.ensures)
    (then result _ _ _ _ _ (text_member _ _ (codes "message") _ _ c.as_str.ensures c.in_ok-write_text.ensures)
    (then result _ _ _ _ _ (text_member _ _ (codes "span") _ _ c.cut.ensures c.in_ok-write_text-2.ensures) (last result _ _ _ c.end_object.ensures)))))
