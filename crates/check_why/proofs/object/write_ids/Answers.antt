use Rattle.std.proofs.Common.{◌∷◌, ap, take_all}
use Rattle.json.specs.Token.{begin_array}
use Rattle.serde_json.specs.Data.{string}
use Rattle.check_why.specs.declared.answer.CrateTitle.{CrateTitle}
use Rattle.diag_print.proofs.JsonLemmas.{then, one, last, same, as_wanted, each_tokens, items_written}
use Rattle.check_why.proofs.object.write_ids.Goals as goal

pub returns : goal.returns
returns c =
    let result = c.end_array.result in
    as_wanted result _ _ _ _ (ap (λ tokens. begin_array ∷ tokens) (items_written (λ (title : CrateTitle). string title.id) c.args.titles.now))
    (then result _ _ _ _ _ (one _ _ _ _ c.in_ok-begin_array.ensures)
    (then result _ _ _ _ _ (same _ _ _ _ (ap (each_tokens (λ (title : CrateTitle). string title.id)) (take_all c.titles.title-index c.args.titles.now c.titles-test.false)) c.titles.invariant)
    (last result _ _ _ c.end_array.ensures)))
