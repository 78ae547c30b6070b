-- What a check looks at, turn after turn.
use Rattle.std.specs.Prelude.{List, map}
use Rattle.gather_core.specs.Calls.{CrateTurn}
use Rattle.gather_core.specs.Exceptions.{counted_of}
use Rattle.gather_core.specs.Turns.{TurnInput, findings_in, info_in, notes_in}
use Rattle.check_core.specs.Turns.{GatheredCrate}

-- a crate, its licence, what was found and noted of it, and the exceptions that count for it, by its turn
abbrev pub gathered_in : TurnInput → GatheredCrate
gathered_in turn = record {
  krate = turn.krate;
  info = info_in turn;
  gathered = findings_in turn;
  notes = notes_in turn;
  exceptions = counted_of turn.exceptions turn.krate turn.known_reads;
}

abbrev pub all_gathered : List CrateTurn → List GatheredCrate
all_gathered turns = map (λ own. gathered_in own.turn) turns
