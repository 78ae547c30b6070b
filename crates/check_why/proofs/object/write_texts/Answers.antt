use Rattle.std.proofs.Common.{◌∷◌, ap, take_all}
use Rattle.json.specs.Token.{begin_array}
use Rattle.serde_json.specs.Data.{string}
use Rattle.diag_print.proofs.JsonLemmas.{then, one, last, same, as_wanted, each_tokens, items_written}
use Rattle.check_why.proofs.object.write_texts.Goals as goal

pub returns : goal.returns
returns c =
    let result = c.end_array.result in
    as_wanted result _ _ _ _ (ap (λ tokens. begin_array ∷ tokens) (items_written string c.args.texts.now))
    (then result _ _ _ _ _ (one _ _ _ _ c.in_ok-begin_array.ensures)
    (then result _ _ _ _ _ (same _ _ _ _ (ap (each_tokens string) (take_all c.texts.text-index c.args.texts.now c.texts-test.false)) c.texts.invariant)
    (last result _ _ _ c.end_array.ensures)))
