use Rattle.std.proofs.Common.{codes}
use Rattle.diag_print.proofs.JsonLemmas.{then, one, last, text_member}
use Rattle.check_why.proofs.object.write_unchecked.Goals as goal

pub returns : goal.returns
returns c =
    let result = c.end_object.result in
    then result _ _ _ _ _ (one _ _ _ _ c.in_ok-begin_object.ensures)
    (then result _ _ _ _ _ c.in_ok-write_text.ensures
    (then result _ _ _ _ _ (text_member _ _ (codes "id") _ _ c.as_str.ensures c.in_ok-write_text-2.ensures)
    (then result _ _ _ _ _ (text_member _ _ (codes "name") _ _ c.as_str-2.ensures c.in_ok-write_text-3.ensures)
    (then result _ _ _ _ _ c.in_ok-write_text-4.ensures
    (then result _ _ _ _ _ (text_member _ _ (codes "version") _ _ c.as_str-3.ensures c.in_ok-write_text-5.ensures)
    (last result _ _ _ c.end_object.ensures))))))
