use Rattle.std.proofs.Common.{codes}
use Rattle.diag_print.proofs.JsonLemmas.{then, one, last, text_member}
use Rattle.check_why.proofs.object.write_term.Goals as goal

pub returns : goal.returns
returns c =
    let result = c.end_object.result in
    then result _ _ _ _ _ (one _ _ _ _ c.in_ok-begin_object.ensures)
    (then result _ _ _ _ _ (text_member _ _ (codes "hit") _ _ c.hit_word.ensures c.in_ok-write_text.ensures)
    (then result _ _ _ _ _ (one _ _ _ _ c.in_ok-key.ensures)
    (then result _ _ _ _ _ c.in_ok-write_hit_place.ensures
    (then result _ _ _ _ _ (text_member _ _ (codes "text") _ _ c.as_str.ensures c.in_ok-write_text-2.ensures)
    (last result _ _ _ c.end_object.ensures)))))
