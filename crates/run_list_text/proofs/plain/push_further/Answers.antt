use Rattle.std.proofs.Common.{◌++◌, ◌∙◌, ap}
use Rattle.run_list_text.specs.Listing.{plain_text}
use Rattle.run_list_text.proofs.ListLemmas.{text_step}
use Rattle.run_list_text.proofs.plain.push_further.Goals as goal

pub texts-preserved : goal.texts-preserved
texts-preserved c =
    text_step c.args.texts.now c.texts.text-index c.text-item.result c.texts-test.true c.text-item.is
    (λ text. c.args.between.now ++ plain_text text) _ _ _ c.texts.invariant
    (c.in_ok-push_behind.ensures.ok ∙ ap (λ text. c.texts.out.items ++ (c.args.between.now ++ plain_text text)) c.as_str.ensures)
