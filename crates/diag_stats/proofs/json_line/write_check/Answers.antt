use Rattle.std.proofs.Common.{◌∷◌, ap}
use Rattle.json.specs.Token.{key}
use Rattle.diag_print.proofs.JsonLemmas.{then, one, as_wanted}
use Rattle.diag_print.specs.JsonTokens.{data_tokens}
use Rattle.diag_stats.specs.Json.{stats_data}
use Rattle.diag_stats.proofs.json_line.write_check.Goals as goal

pub returns : goal.returns
returns c =
    let result = c.write_stats.result in
    as_wanted result _ _ _ _ (ap (λ word. key word ∷ data_tokens (stats_data c.args.check.stats)) c.check_word.ensures.word)
    (then result _ _ _ _ _ (one _ _ _ _ c.in_ok-key.ensures) c.write_stats.ensures)
