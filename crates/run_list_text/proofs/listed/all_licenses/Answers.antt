use Rattle.std.proofs.Common.{◌∙◌, ap₂, fold, nat_cmp, sym}
use Rattle.std.specs.Cmp.Lexicographic.{slice_cmp}
use Rattle.std.specs.BTreeSet.{insert_key}
use Rattle.run_list_text.proofs.ListLemmas.{distinct_more}
use Rattle.run_list_text.proofs.listed.all_licenses.Goals as goal

pub crates-preserved : goal.crates-preserved
crates-preserved c =
    c.in_ok-copies_in.ensures
    ∙ ap₂ (fold (insert_key (slice_cmp nat_cmp))) c.crates.invariant c.items.ensures
    ∙ sym (distinct_more c.args.crates.now c.crates.listed-index c.listed-item.result c.crates-test.true c.listed-item.is)
