use Rattle.std.proofs.Common.{◌++◌, ◌∙◌, [], ◌∷◌, None, ap, sym}
use Rattle.run_list_text.specs.Listed.{names_under}
use Rattle.run_list_text.proofs.ListLemmas.{names_more}
use Rattle.run_list_text.proofs.listed.names_without.Goals as goal

pub crates-preserved : goal.crates-preserved
crates-preserved c =
    c.in_ok-add_name.ensures
    ∙ ap (λ names. names ++ names_under None (c.listed-item.result ∷ [])) c.crates.invariant
    ∙ sym (names_more None c.args.crates.now c.crates.listed-index c.listed-item.result c.crates-test.true c.listed-item.is)
