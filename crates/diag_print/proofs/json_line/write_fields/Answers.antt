use Rattle.std.proofs.Common.{ap, codes, map}
use Rattle.serde_json.specs.Data.{array, string}
use Rattle.serde_json.specs.View.{items_of}
use Rattle.diag_print.specs.Json.{label_data}
use Rattle.diag_print.specs.JsonTokens.{data_tokens}
use Rattle.diag_print.proofs.JsonLemmas.{then, one, last, same, text_member}
use Rattle.diag_print.proofs.json_line.write_fields.Goals as goal

pub returns : goal.returns
returns c =
    let result = c.end_object.result in
    then result _ _ _ _ _ (one _ _ _ _ c.in_ok-begin_object.ensures)
    (then result _ _ _ _ _ (one _ _ _ _ c.in_ok-key.ensures)
    (then result _ _ _ _ _ c.in_ok-write_code.ensures
    (then result _ _ _ _ _ (one _ _ _ _ c.in_ok-key-2.ensures)
    (then result _ _ _ _ _ (same _ _ _ _ (ap (λ labels. data_tokens (array (items_of (map (label_data c.args.files.now) labels)))) c.items.ensures) c.in_ok-write_labels.ensures)
    (then result _ _ _ _ _ (text_member _ _ (codes "message") _ _ c.as_str.ensures c.in_ok-write_text.ensures)
    (then result _ _ _ _ _ (one _ _ _ _ c.in_ok-key-3.ensures)
    (then result _ _ _ _ _ (same _ _ _ _ (ap (λ notes. data_tokens (array (items_of (map string notes)))) c.items-2.ensures) c.in_ok-write_notes.ensures)
    (then result _ _ _ _ _ (text_member _ _ (codes "severity") _ _ c.severity_word.ensures c.in_ok-write_text-2.ensures) (last result _ _ _ c.end_object.ensures)))))))))
