use Rattle.std.proofs.Common.{◌∷◌, ap, take_all}
use Rattle.json.specs.Token.{begin_array}
use Rattle.diag_print.proofs.JsonLemmas.{then, one, last, same, as_wanted, each_tokens, items_written}
use Rattle.run_list_text.specs.Listing.{crate_data}
use Rattle.run_list_text.proofs.json_text.write_by_crate.Goals as goal

pub returns : goal.returns
returns c =
    let result = c.end_array.result in
    as_wanted result _ _ _ _ (ap (λ tokens. begin_array ∷ tokens) (items_written crate_data c.args.crates.now))
    (then result _ _ _ _ _ (one _ _ _ _ c.in_ok-begin_array.ensures) (then result _ _ _ _ _ (same _ _ _ _ (ap (each_tokens crate_data) (take_all c.crates.listed-index c.args.crates.now c.crates-test.false)) c.crates.invariant) (last result _ _ _ c.end_array.ensures)))
