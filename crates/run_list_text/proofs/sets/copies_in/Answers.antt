use Rattle.std.proofs.Common.{◌∙◌, ap₂, sym, nat_cmp}
use Rattle.std.specs.Cmp.Lexicographic.{slice_cmp}
use Rattle.std.specs.BTreeSet.{insert_key}
use Rattle.run_list_text.proofs.ListLemmas.{fold_more}
use Rattle.run_list_text.proofs.sets.copies_in.Goals as goal

pub texts-preserved : goal.texts-preserved
texts-preserved c =
    c.in_ok-insert.ensures.keys
    ∙ ap₂ (insert_key (slice_cmp nat_cmp)) c.texts.invariant (c.in_ok-copy.ensures ∙ c.as_str.ensures)
    ∙ sym (fold_more c.args.texts.now c.texts.text-index c.text-item.result c.texts-test.true c.text-item.is (insert_key (slice_cmp nat_cmp)) _)
