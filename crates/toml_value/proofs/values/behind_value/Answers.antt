use Rattle.std.proofs.Common.{◌≡◌, ◌+◌, ◌<◌, ap, sym, subst, ◌∙◌, arith}
use Rattle.toml_subset.specs.Data.{Items}
use Rattle.toml_subset.proofs.frames.Turns.{array_behind, array_stops}
use Rattle.toml_subset.specs.frames.Between.{next_place}
use Rattle.toml_subset.specs.frames.Frames.{in_array, with_last, on_with, array_turn, IsValueStep}
use Rattle.toml_value.specs.StackViews.{value_found}
use Rattle.toml_value.specs.Views.{value_view, values_view}
use Rattle.toml_value.proofs.TurnLemmas.{with_item-last}
use Rattle.toml_value.proofs.values.behind_value.Goals as goal

pub returns-in-Ok : goal.returns-in-Ok
returns-in-Ok c =
    let text = c.args.text.now in
    let at = c.args.at in
    let items = values_view c.args.items in
    let v = value_found (c.args.value, c.args.next) in
    let more : values_view c.in_ok-items.items ≡ with_last items v = c.in_ok-items.ensures ∙ with_item-last items (value_view c.args.value) c.args.next in
    let ahead : c.args.next < next_place c.in-Ok.next = c.in-Ok.ensures.goes in
    subst (IsValueStep text (c.args.next + 1) at.above (on_with text (in_array at.place at.above items) v))
    (sym (c.array_turn.ensures ∙ ap (λ (all : Items). array_turn at.place at.above all c.in-Ok.next) more))
    (array_behind text at.place at.above items v c.in-Ok.next c.requires.shallow c.requires.value (sym c.in-Ok.ensures.next) (omega arith) c.in-Ok.ensures.within)

pub returns-in-Err : goal.returns-in-Err
returns-in-Err c =
    let at = c.args.at in
    array_stops c.args.text.now at.place at.above (values_view c.args.items) (value_found (c.args.value, c.args.next)) c.in-Err.fault c.requires.value (sym c.in-Err.ensures.next)
