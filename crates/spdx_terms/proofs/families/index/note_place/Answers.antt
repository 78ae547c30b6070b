use Rattle.std.proofs.Common.{◌<◌, length, arith}
use Rattle.std.proofs.lemmas.Result.{on_ok_weaker}
use Rattle.spdx_terms.proofs.families.MapLemmas.{more_index}
use Rattle.spdx_terms.proofs.families.index.note_place.Goals as goal

pub returns-clause-ok : goal.returns-clause-ok
returns-clause-ok c =
    let families = c.args.families.now in
    let many : 1 < length families = grind (arith, c.if-is_empty.false, c.is_empty.ensures, c.if-families-eq1.false) in
    on_ok_weaker c.add_place.result (more_index c.args.places.now c.add_place.new.map families c.args.family many c.requires) c.add_place.ensures.ok
