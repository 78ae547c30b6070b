use Rattle.std.proofs.Common.{◌+◌, ◌*◌, ◌/◌, ap₂, sym, ◌∙◌, arith}
use Rattle.diag_core.specs.Position.{begins_character}
use Rattle.diag_core.proofs.BlockLemmas.{count_split}
use Rattle.diag_core.proofs.characters.characters_before.Goals as goal

pub returns : goal.returns
returns c =
    let place = c.args.place in
    ap₂ (λ before after. before + after) (c.requires.counted.each (place / 256) (omega arith)) c.character_count.ensures
    ∙ sym (count_split begins_character c.args.text.now (place / 256 * 256) place (omega arith) c.requires.within)
