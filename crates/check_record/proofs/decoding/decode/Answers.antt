use Rattle.std.proofs.Common.{sym, subst, List}
use Rattle.std.proofs.lemmas.Result.{err_from_is_err_and}
use Rattle.check_record.specs.declared.items.RecordItem.{RecordItem}
use Rattle.check_record.specs.Decoded.{Spells}
use Rattle.check_record.proofs.Files.{decode_fails, whole_takes}
use Rattle.check_record.proofs.decoding.decode.Goals as goal

pub of-requires : goal.of-requires
of-requires c = (whole_takes c.args.bytes.now c.in_ok-items.items c.in_ok-items.ensures).is

pub returns : goal.returns
returns c =
    subst (λ (items : List RecordItem). Spells c.args.bytes.now items) (sym c.of.ensures)
    (whole_takes c.args.bytes.now c.in_ok-items.items c.in_ok-items.ensures)

pub returns-in_err-items : goal.returns-in_err-items
returns-in_err-items c =
    let p = err_from_is_err_and c.from_residual.result c.from_residual.ensures.1 in
    rw (p.1, p.2) (decode_fails c.in_err-items.field-0.0 c.args.bytes.now c.in_err-items.ensures)
