use Rattle.std.proofs.Common.{◌∙◌, ap, sym}
use Rattle.run_list_text.specs.Grouped.{with_name}
use Rattle.run_list_text.proofs.ListLemmas.{fold_more}
use Rattle.run_list_text.proofs.grouped.add_crate.Goals as goal

pub licenses-preserved : goal.licenses-preserved
licenses-preserved c =
    let listed = c.args.listed.now in
    let license = c.license-item.result in
    c.in_ok-add_name.ensures
    ∙ ap (λ name. with_name name c.licenses.map.entries license) (c.in_ok-name.ensures ∙ c.as_str.ensures)
    ∙ ap (λ names. with_name listed.name names license) c.licenses.invariant
    ∙ sym (fold_more _ c.licenses.license-index license c.licenses-test.true c.license-item.is (with_name listed.name) _)
