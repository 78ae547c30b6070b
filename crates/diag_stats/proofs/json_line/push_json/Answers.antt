use Rattle.std.proofs.Common.{◌≡◌, ◌++◌, ◌∙◌, [], ap, codes, string_bytes, append_assoc}
use Rattle.serde_json.proofs.Texts.{print-outline}
use Rattle.serde_json.specs.Written.{compact_text}
use Rattle.diag_print.specs.JsonTokens.{data_tokens}
use Rattle.diag_print.proofs.FlatLemmas.{OnOk-appended}
use Rattle.diag_print.proofs.JsonLemmas.{held}
use Rattle.diag_stats.specs.Json.{summary_data}
use Rattle.diag_stats.proofs.json_line.push_json.Goals as goal

pub returns : goal.returns
returns c =
    let wanted = summary_data c.args.checks.now in
    let before = string_bytes c.args.out.now in
    let empty : c.new-writer.result.before ≡ [] = c.new-writer.ensures.before ∙ c.new.ensures.items in
    let printed = held [] c.into_inner.result.items c.new-writer.result c.write_summary.new.out (data_tokens wanted)
    empty c.new-writer.ensures.tokens c.in_ok-write_summary.ensures c.into_inner.ensures.items in
    let line : c.as_str.result.now ≡ compact_text wanted =
    c.as_str.ensures.value ∙ ap (λ vec. vec.items) c.from_utf8_unchecked-line.ensures.value ∙ printed ∙ print-outline wanted in
    let written : string_bytes c.push_str.new.self ≡ before ++ compact_text wanted =
    c.in_ok-push_str.ensures.bytes ∙ ap (λ text. before ++ text) line in
    OnOk-appended c.push_str-2.result (string_bytes c.push_str.new.self) (codes "\n") _ _ c.push_str-2.ensures.bytes
    (ap (λ text. text ++ codes "\n") written ∙ append_assoc before (compact_text wanted) (codes "\n"))
