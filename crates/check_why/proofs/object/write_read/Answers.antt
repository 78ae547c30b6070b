use Rattle.std.proofs.Common.{codes}
use Rattle.diag_print.proofs.JsonLemmas.{then, one, last, text_member}
use Rattle.check_why.proofs.object.write_read.Goals as goal

pub returns : goal.returns
returns c =
    let result = c.end_object.result in
    then result _ _ _ _ _ (one _ _ _ _ c.in_ok-begin_object.ensures)
    (then result _ _ _ _ _ (text_member _ _ (codes "answer") _ _ c.said_word.ensures c.in_ok-write_text.ensures)
    (then result _ _ _ _ _ (one _ _ _ _ c.in_ok-key.ensures)
    (then result _ _ _ _ _ c.in_ok-write_name.ensures
    (then result _ _ _ _ _ (text_member _ _ (codes "path") _ _ c.as_path.ensures c.in_ok-write_text-2.ensures)
    (then result _ _ _ _ _ (one _ _ _ _ c.in_ok-key-2.ensures)
    (then result _ _ _ _ _ c.in_ok-write_score.ensures
    (last result _ _ _ c.end_object.ensures)))))))
