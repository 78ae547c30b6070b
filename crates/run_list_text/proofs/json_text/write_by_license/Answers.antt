use Rattle.std.proofs.Common.{ap, ◌∙◌, map}
use Rattle.serde_json.specs.Data.{array}
use Rattle.serde_json.specs.View.{items_of}
use Rattle.diag_print.specs.JsonTokens.{data_tokens}
use Rattle.diag_print.proofs.JsonLemmas.{then, one, last, same}
use Rattle.run_list_text.specs.Grouped.{entry_of}
use Rattle.run_list_text.specs.Listing.{texts_data}
use Rattle.run_list_text.proofs.GroupLemmas.{data_are}
use Rattle.run_list_text.proofs.json_text.write_by_license.Goals as goal

pub returns : goal.returns
returns c =
    let result = c.end_object.result in
    let licenses = data_are c.args.crates.now c.items.result.now (ap (λ groups. map entry_of groups) c.items.ensures ∙ c.in_ok-groups.ensures) in
    then result _ _ _ _ _ (one _ _ _ _ c.in_ok-begin_object.ensures)
    (then result _ _ _ _ _ (one _ _ _ _ c.in_ok-key.ensures)
    (then result _ _ _ _ _ (same _ _ _ _ (ap (λ items. data_tokens (array (items_of items))) licenses) c.in_ok-write_licenses.ensures)
    (then result _ _ _ _ _ (one _ _ _ _ c.in_ok-key-2.ensures)
    (then result _ _ _ _ _ (same _ _ _ _ (ap (λ texts. data_tokens (texts_data texts)) (c.items-2.ensures ∙ c.in_ok-names.ensures)) c.in_ok-write_texts.ensures)
    (last result _ _ _ c.end_object.ensures)))))
