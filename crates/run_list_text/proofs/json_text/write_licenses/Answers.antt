use Rattle.std.proofs.Common.{◌∷◌, ap, take_all}
use Rattle.json.specs.Token.{begin_array}
use Rattle.serde_json.specs.Data.{Data}
use Rattle.diag_print.proofs.JsonLemmas.{then, one, last, same, as_wanted, each_tokens, items_written}
use Rattle.run_list_text.specs.declared.grouped.LicenseNames.{LicenseNames}
use Rattle.run_list_text.specs.Grouped.{entry_data, entry_of}
use Rattle.run_list_text.proofs.json_text.write_licenses.Goals as goal

abbrev each : LicenseNames → Data
each group = entry_data (entry_of group)

pub returns : goal.returns
returns c =
    let result = c.end_array.result in
    as_wanted result _ _ _ _ (ap (λ tokens. begin_array ∷ tokens) (items_written each c.args.groups.now))
    (then result _ _ _ _ _ (one _ _ _ _ c.in_ok-begin_array.ensures) (then result _ _ _ _ _ (same _ _ _ _ (ap (each_tokens each) (take_all c.groups.group-index c.args.groups.now c.groups-test.false)) c.groups.invariant) (last result _ _ _ c.end_array.ensures)))
