use Rattle.std.proofs.Common.{◌≡◌, ◌++◌, ◌∙◌, [], ap, codes, string_bytes}
use Rattle.serde_json.proofs.Texts.{print-outline}
use Rattle.serde_json.specs.Written.{compact_text}
use Rattle.diag_print.specs.JsonTokens.{data_tokens}
use Rattle.diag_print.proofs.FlatLemmas.{OnOk-appended}
use Rattle.diag_print.proofs.JsonLemmas.{held}
use Rattle.check_why.specs.Object.{unchecked_data}
use Rattle.check_why.proofs.object.push_unchecked_object.Goals as goal

pub returns-clause-ok : goal.returns-clause-ok
returns-clause-ok c =
    let wanted = unchecked_data c.args.title.now c.args.because.now in
    let before = string_bytes c.args.out.now in
    let empty : c.new-writer.result.before ≡ [] = c.new-writer.ensures.before ∙ c.in_ok-with_capacity.ensures.items in
    let printed = held [] c.into_inner.result.items c.new-writer.result c.write_unchecked.new.out (data_tokens wanted)
    empty c.new-writer.ensures.tokens c.in_ok-write_unchecked.ensures c.into_inner.ensures.items in
    let text : string_bytes c.from_utf8_unchecked-line.result ≡ compact_text wanted =
    ap (λ vec. vec.items) c.from_utf8_unchecked-line.ensures.value ∙ printed ∙ print-outline wanted in
    let line : string_bytes c.push_str.new.self ≡ compact_text wanted ++ codes "\n" =
    c.in_ok-push_str.ensures.bytes ∙ ap (λ text. text ++ codes "\n") text in
    OnOk-appended c.push_str-2.result before c.as_str.result.now _ _ c.push_str-2.ensures.bytes
    (ap (λ text. before ++ text) (c.as_str.ensures.value ∙ line))
