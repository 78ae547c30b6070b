use Rattle.std.proofs.Common.{◌+◌, List, map, sym, subst}
use Rattle.toml_subset.specs.Reading.{value_at}
use Rattle.toml_subset.proofs.frames.Stacks.{IsReading, reading_begins, waits_shallow, waits_on, waits_refused, reads_shallow, reads_on, reads_refused}
use Rattle.toml_subset.specs.frames.Frames.{depth_around, depth_within, on_with}
use Rattle.toml_value.specs.StackViews.{value_found, frame_view, turn_view}
use Rattle.toml_value.specs.declared.values.Frame.{Frame}
use Rattle.toml_value.proofs.TurnLemmas.{refused_on, waiting, pushed, popped}
use Rattle.toml_value.proofs.values.read_with.Goals as goal

pub turns-init : goal.turns-init
turns-init c =
    subst (λ (frames : List Frame). IsReading c.args.text.now c.args.above c.args.place (map frame_view frames) (turn_view c.in_ok-turn.turn)) (sym c.requires.none)
    (reading_begins c.args.text.now c.args.above c.args.place (c.args.place + 1) (turn_view c.in_ok-turn.turn) c.in_ok-turn.ensures)

pub deeper-requires-clause-shallow : goal.deeper-requires-clause-shallow
deeper-requires-clause-shallow c =
    let text = c.args.text.now in
    let stack = c.turns.waiting.items in
    let is = waiting text c.args.above c.args.place stack c.turns.turn c.in-Waits.frame c.in-Waits.place c.in-Waits.is c.turns.invariant in
    let low = waits_shallow text c.args.above c.args.place (map frame_view stack) (frame_view c.in-Waits.frame) c.in-Waits.place is in
    low.0

pub deeper-requires-clause-room : goal.deeper-requires-clause-room
deeper-requires-clause-room c =
    let text = c.args.text.now in
    let stack = c.turns.waiting.items in
    let is = waiting text c.args.above c.args.place stack c.turns.turn c.in-Waits.frame c.in-Waits.place c.in-Waits.is c.turns.invariant in
    let low = waits_shallow text c.args.above c.args.place (map frame_view stack) (frame_view c.in-Waits.frame) c.in-Waits.place is in
    low.1

pub turns-preserved-in-Ok : goal.turns-preserved-in-Ok
turns-preserved-in-Ok c =
    let text = c.args.text.now in
    let stack = c.turns.waiting.items in
    let frame = frame_view c.in-Waits.frame in
    let is = waiting text c.args.above c.args.place stack c.turns.turn c.in-Waits.frame c.in-Waits.place c.in-Waits.is c.turns.invariant in
    pushed text c.args.above c.args.place stack c.deeper.new.waiting.items c.in-Waits.frame c.in-Ok.first c.in-Ok.ensures.stack
    (waits_on text c.args.above c.args.place (map frame_view stack) frame c.in-Waits.place (c.in-Waits.place + 1) (turn_view c.in-Ok.first) is c.in-Ok.ensures.turn)

pub returns-in-Err-clause-answer : goal.returns-in-Err-clause-answer
returns-in-Err-clause-answer c =
    let text = c.args.text.now in
    let stack = c.turns.waiting.items in
    let frame = frame_view c.in-Waits.frame in
    let is = waiting text c.args.above c.args.place stack c.turns.turn c.in-Waits.frame c.in-Waits.place c.in-Waits.is c.turns.invariant in
    refused_on text (c.in-Waits.place + 1) (depth_within frame) (value_at text (depth_within frame) c.in-Waits.place) (value_at text c.args.above c.args.place) c.in-Err.error
    (λ fault. waits_refused text c.args.above c.args.place (map frame_view stack) frame c.in-Waits.place fault is) c.in-Err.ensures.turn

pub next_turn-requires-clause-shallow : goal.next_turn-requires-clause-shallow
next_turn-requires-clause-shallow c =
    let text = c.args.text.now in
    let rest = c.pop.new.self.items in
    let is = popped text c.args.above c.args.place c.turns.waiting.items rest c.in-Some.frame c.turns.turn c.in-Read.value c.in-Read.next c.in-Some.ensures.items c.in-Read.is c.turns.invariant in
    let low = reads_shallow text c.args.above c.args.place (map frame_view rest) (frame_view c.in-Some.frame) (value_found (c.in-Read.value, c.in-Read.next)) is in
    low.0

pub next_turn-requires-clause-value : goal.next_turn-requires-clause-value
next_turn-requires-clause-value c =
    let text = c.args.text.now in
    let rest = c.pop.new.self.items in
    let is = popped text c.args.above c.args.place c.turns.waiting.items rest c.in-Some.frame c.turns.turn c.in-Read.value c.in-Read.next c.in-Some.ensures.items c.in-Read.is c.turns.invariant in
    let low = reads_shallow text c.args.above c.args.place (map frame_view rest) (frame_view c.in-Some.frame) (value_found (c.in-Read.value, c.in-Read.next)) is in
    low.1

pub turns-preserved : goal.turns-preserved
turns-preserved c =
    let text = c.args.text.now in
    let rest = c.pop.new.self.items in
    let is = popped text c.args.above c.args.place c.turns.waiting.items rest c.in-Some.frame c.turns.turn c.in-Read.value c.in-Read.next c.in-Some.ensures.items c.in-Read.is c.turns.invariant in
    reads_on text c.args.above c.args.place (map frame_view rest) (frame_view c.in-Some.frame) (value_found (c.in-Read.value, c.in-Read.next)) (c.in-Read.next + 1)
    (turn_view c.in-Ok-next_turn.further) is c.in-Ok-next_turn.ensures

pub returns-in-Err-next_turn-clause-answer : goal.returns-in-Err-next_turn-clause-answer
returns-in-Err-next_turn-clause-answer c =
    let text = c.args.text.now in
    let rest = c.pop.new.self.items in
    let frame = frame_view c.in-Some.frame in
    let v = value_found (c.in-Read.value, c.in-Read.next) in
    let is = popped text c.args.above c.args.place c.turns.waiting.items rest c.in-Some.frame c.turns.turn c.in-Read.value c.in-Read.next c.in-Some.ensures.items c.in-Read.is c.turns.invariant in
    refused_on text (c.in-Read.next + 1) (depth_around frame) (on_with text frame v) (value_at text c.args.above c.args.place) c.in-Err-next_turn.error
    (λ fault. reads_refused text c.args.above c.args.place (map frame_view rest) frame v fault is) c.in-Err-next_turn.ensures
