use Rattle.std.proofs.Common.{◌∷◌, ap, take_all}
use Rattle.json.specs.Token.{begin_array}
use Rattle.check_why.specs.Object.{unmet_data}
use Rattle.diag_print.proofs.JsonLemmas.{then, one, last, same, as_wanted, each_tokens, items_written}
use Rattle.check_why.proofs.object.write_unmet.Goals as goal

pub returns : goal.returns
returns c =
    let result = c.end_array.result in
    as_wanted result _ _ _ _ (ap (λ tokens. begin_array ∷ tokens) (items_written unmet_data c.args.unmet.now))
    (then result _ _ _ _ _ (one _ _ _ _ c.in_ok-begin_array.ensures)
    (then result _ _ _ _ _ (same _ _ _ _ (ap (each_tokens unmet_data) (take_all c.unmet.one-index c.args.unmet.now c.unmet-test.false)) c.unmet.invariant)
    (last result _ _ _ c.end_array.ensures)))
