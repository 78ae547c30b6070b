use Rattle.std.proofs.Common.{ap, codes, map}
use Rattle.serde_json.specs.Data.{array}
use Rattle.serde_json.specs.View.{items_of}
use Rattle.diag_print.specs.JsonTokens.{data_tokens}
use Rattle.diag_print.proofs.JsonLemmas.{then, one, last, same, text_member}
use Rattle.check_why.specs.Object.{ids_data, optional_text, read_data, term_data, texts_data, unmet_data}
use Rattle.check_why.proofs.object.write_answer.Goals as goal

pub returns : goal.returns
returns c =
    let result = c.end_object.result in
    then result _ _ _ _ _ (one _ _ _ _ c.in_ok-begin_object.ensures)
    (then result _ _ _ _ _ (one _ _ _ _ c.in_ok-key.ensures)
    (then result _ _ _ _ _ c.in_ok-write_allow.ensures
    (then result _ _ _ _ _ (one _ _ _ _ c.in_ok-key-2.ensures)
    (then result _ _ _ _ _ (one _ _ _ _ c.in_ok-null.ensures)
    (then result _ _ _ _ _ (one _ _ _ _ c.in_ok-key-3.ensures)
    (then result _ _ _ _ _ c.in_ok-write_blocks.ensures
    (then result _ _ _ _ _ (one _ _ _ _ c.in_ok-key-4.ensures)
    (then result _ _ _ _ _ c.in_ok-write_choice.ensures
    (then result _ _ _ _ _ (text_member _ _ (codes "id") _ _ c.as_str.ensures c.in_ok-write_text.ensures)
    (then result _ _ _ _ _ (one _ _ _ _ c.in_ok-key-5.ensures)
    (then result _ _ _ _ _ (same _ _ _ _ (ap (λ text. data_tokens (optional_text text)) c.license_text.ensures) c.in_ok-write_optional.ensures)
    (then result _ _ _ _ _ (text_member _ _ (codes "name") _ _ c.as_str-2.ensures c.in_ok-write_text-2.ensures)
    (then result _ _ _ _ _ (one _ _ _ _ c.in_ok-key-6.ensures)
    (then result _ _ _ _ _ (same _ _ _ _ (ap (λ list. data_tokens (ids_data list)) c.items.ensures) c.in_ok-write_ids.ensures)
    (then result _ _ _ _ _ (one _ _ _ _ c.in_ok-key-7.ensures)
    (then result _ _ _ _ _ (same _ _ _ _ (ap (λ list. data_tokens (texts_data list)) c.items-2.ensures) c.in_ok-write_texts.ensures)
    (then result _ _ _ _ _ (one _ _ _ _ c.in_ok-key-8.ensures)
    (then result _ _ _ _ _ (same _ _ _ _ (ap (λ text. data_tokens (optional_text text)) c.license_place.ensures) c.in_ok-write_optional-2.ensures)
    (then result _ _ _ _ _ (one _ _ _ _ c.in_ok-key-9.ensures)
    (then result _ _ _ _ _ (same _ _ _ _ (ap (λ list. data_tokens (array (items_of (map read_data list)))) c.items-3.ensures) c.in_ok-write_reads.ensures)
    (then result _ _ _ _ _ (one _ _ _ _ c.in_ok-key-10.ensures)
    (then result _ _ _ _ _ (same _ _ _ _ (ap (λ text. data_tokens (optional_text text)) c.license_source.ensures) c.in_ok-write_optional-3.ensures)
    (then result _ _ _ _ _ (one _ _ _ _ c.in_ok-key-11.ensures)
    (then result _ _ _ _ _ (same _ _ _ _ (ap (λ list. data_tokens (array (items_of (map term_data list)))) c.items-4.ensures) c.in_ok-write_terms.ensures)
    (then result _ _ _ _ _ (one _ _ _ _ c.in_ok-key-12.ensures)
    (then result _ _ _ _ _ (same _ _ _ _ (ap (λ list. data_tokens (array (items_of (map unmet_data list)))) c.items-5.ensures) c.in_ok-write_unmet.ensures)
    (then result _ _ _ _ _ (text_member _ _ (codes "verdict") _ _ c.verdict_word.ensures c.in_ok-write_text-3.ensures)
    (then result _ _ _ _ _ (text_member _ _ (codes "version") _ _ c.as_str-3.ensures c.in_ok-write_text-4.ensures)
    (last result _ _ _ c.end_object.ensures)))))))))))))))))))))))))))))
