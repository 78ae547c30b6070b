use Rattle.std.proofs.Common.{◌≡◌, ◌++◌, ◌∙◌, ◌∷◌, [], ap}
use Rattle.serde_json.proofs.Texts.{print-outline}
use Rattle.serde_json.specs.Written.{compact_text}
use Rattle.diag_print.specs.JsonTokens.{data_tokens}
use Rattle.diag_print.proofs.JsonLemmas.{held}
use Rattle.run_list_text.specs.Listing.{data_of}
use Rattle.run_list_text.proofs.json_text.json_text.Goals as goal

pub returns : goal.returns
returns c =
    let wanted = data_of c.args.layout c.args.crates.now in
    let empty : c.new-writer.result.before ≡ [] = c.new-writer.ensures.before ∙ c.new.ensures.items in
    let printed = held [] c.into_inner-text.result.items c.new-writer.result c.write_value.new.out (data_tokens wanted)
    empty c.new-writer.ensures.tokens c.in_ok-write_value.ensures c.into_inner-text.ensures.items in
    let text : c.into_inner-text.result.items ≡ compact_text wanted = printed ∙ print-outline wanted in
    c.in_ok-push.ensures.items ∙ ap (λ bytes. bytes ++ 10 ∷ []) text
