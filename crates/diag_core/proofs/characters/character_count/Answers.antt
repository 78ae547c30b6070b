-- All bytes are ASCII.
use Rattle.diag_core.proofs.PositionLemmas.{ascii_count}
use Rattle.diag_core.proofs.characters.character_count.Goals as goal

pub returns-then-is_ascii : goal.returns-then-is_ascii
returns-then-is_ascii c = ascii_count c.args.bytes.now c.if-is_ascii.ensures.cases
