use Rattle.std.proofs.Common.{codes}
use Rattle.diag_print.proofs.JsonLemmas.{then, one, last, text_member}
use Rattle.check_why.proofs.object.write_unmet_one.Goals as goal

pub returns : goal.returns
returns c =
    let result = c.end_object.result in
    then result _ _ _ _ _ (one _ _ _ _ c.in_ok-begin_object.ensures)
    (then result _ _ _ _ _ (one _ _ _ _ c.in_ok-key.ensures)
    (then result _ _ _ _ _ c.in_ok-write_found.ensures
    (then result _ _ _ _ _ (text_member _ _ (codes "kind") _ _ c.asking_word.ensures c.in_ok-write_text.ensures)
    (then result _ _ _ _ _ (text_member _ _ (codes "path") _ _ c.as_path.ensures c.in_ok-write_text-2.ensures)
    (then result _ _ _ _ _ (text_member _ _ (codes "place") _ _ c.as_str.ensures c.in_ok-write_text-3.ensures)
    (then result _ _ _ _ _ (text_member _ _ (codes "reason") _ _ c.reason_word.ensures c.in_ok-write_text-4.ensures)
    (then result _ _ _ _ _ (one _ _ _ _ c.in_ok-key-2.ensures)
    (then result _ _ _ _ _ c.in_ok-write_wanted.ensures
    (last result _ _ _ c.end_object.ensures)))))))))
