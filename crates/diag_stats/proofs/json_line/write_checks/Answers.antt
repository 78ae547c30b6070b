use Rattle.std.proofs.Common.{◌∷◌, ap, take_all}
use Rattle.std.specs.List.{flat_map}
use Rattle.json.specs.Token.{begin_object}
use Rattle.diag_print.proofs.JsonLemmas.{then, one, last, same, as_wanted}
use Rattle.diag_stats.specs.Json.{check_tokens}
use Rattle.diag_stats.proofs.CheckLemmas.{members_written}
use Rattle.diag_stats.proofs.json_line.write_checks.Goals as goal

pub returns : goal.returns
returns c =
    let result = c.end_object.result in
    as_wanted result _ _ _ _ (ap (λ tokens. begin_object ∷ tokens) (members_written c.args.checks.now))
    (then result _ _ _ _ _ (one _ _ _ _ c.in_ok-begin_object.ensures) (then result _ _ _ _ _ (same _ _ _ _ (ap (flat_map check_tokens) (take_all c.checks.check-index c.args.checks.now c.checks-test.false)) c.checks.invariant) (last result _ _ _ c.end_object.ensures)))
