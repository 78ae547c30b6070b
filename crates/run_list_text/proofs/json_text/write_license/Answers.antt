use Rattle.std.proofs.Common.{ap}
use Rattle.diag_print.specs.JsonTokens.{data_tokens}
use Rattle.diag_print.proofs.JsonLemmas.{then, one, last, same}
use Rattle.run_list_text.specs.Listing.{texts_data}
use Rattle.run_list_text.proofs.JsonLemmas.{one_text}
use Rattle.run_list_text.proofs.json_text.write_license.Goals as goal

pub returns : goal.returns
returns c =
    let result = c.end_array.result in
    then result _ _ _ _ _ (one _ _ _ _ c.in_ok-begin_array.ensures)
    (then result _ _ _ _ _ (one_text _ _ _ _ _ c.as_str.ensures c.in_ok-string.ensures)
    (then result _ _ _ _ _ (same _ _ _ _ (ap (λ texts. data_tokens (texts_data texts)) c.items.ensures) c.in_ok-write_texts.ensures)
    (last result _ _ _ c.end_array.ensures)))
