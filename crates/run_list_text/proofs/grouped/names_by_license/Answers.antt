use Rattle.std.proofs.Common.{◌∙◌, [], ap, sym, take_all}
use Rattle.run_list_text.specs.Grouped.{gathered_names, with_crate}
use Rattle.run_list_text.proofs.GroupLemmas.{gathered}
use Rattle.run_list_text.proofs.ListLemmas.{fold_more}
use Rattle.run_list_text.proofs.grouped.names_by_license.Goals as goal

pub crates-preserved : goal.crates-preserved
crates-preserved c =
    c.in_ok-add_crate.ensures
    ∙ ap (λ names. with_crate names c.listed-item.result) c.crates.invariant
    ∙ sym (fold_more c.args.crates.now c.crates.listed-index c.listed-item.result c.crates-test.true c.listed-item.is with_crate [])

pub returns : goal.returns
returns c =
    c.in_ok-groups.ensures
    ∙ c.crates.invariant
    ∙ ap gathered_names (take_all c.crates.listed-index c.args.crates.now c.crates-test.false)
    ∙ gathered c.args.crates.now c.requires
