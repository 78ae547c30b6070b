use Rattle.std.proofs.Common.{◌∙◌, sym, [], length}
use Rattle.check_record.specs.Reading.{items_on}
use Rattle.check_record.proofs.Loops.{items_fail}
use Rattle.check_record.proofs.decode_parts.read_items.Goals as goal

pub returns-in-Err : goal.returns-in-Err
returns-in-Err c =
    let bytes = c.args.bytes.now in
    items_fail c.in-Err.error c.items.items c.items.rest.now (items_on (length bytes) [] bytes) (sym c.begins.ensures.answer ∙ c.items-test.true) c.in-Err.ensures c.items.invariant
