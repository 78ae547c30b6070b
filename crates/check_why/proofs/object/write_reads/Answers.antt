use Rattle.std.proofs.Common.{◌∷◌, ap, take_all}
use Rattle.json.specs.Token.{begin_array}
use Rattle.check_why.specs.Object.{read_data}
use Rattle.diag_print.proofs.JsonLemmas.{then, one, last, same, as_wanted, each_tokens, items_written}
use Rattle.check_why.proofs.object.write_reads.Goals as goal

pub returns : goal.returns
returns c =
    let result = c.end_array.result in
    as_wanted result _ _ _ _ (ap (λ tokens. begin_array ∷ tokens) (items_written read_data c.args.reads.now))
    (then result _ _ _ _ _ (one _ _ _ _ c.in_ok-begin_array.ensures)
    (then result _ _ _ _ _ (same _ _ _ _ (ap (each_tokens read_data) (take_all c.reads.read-index c.args.reads.now c.reads-test.false)) c.reads.invariant)
    (last result _ _ _ c.end_array.ensures)))
