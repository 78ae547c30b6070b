use Rattle.std.proofs.Common.{◌≡◌, ◌+◌, true, false, ap, sym, subst, ◌∙◌}
use Rattle.toml_subset.specs.Bytes.{open_bracket}
use Rattle.toml_subset.specs.Data.{Items}
use Rattle.toml_subset.specs.Places.{stands}
use Rattle.toml_subset.specs.Reading.{value_at}
use Rattle.toml_subset.specs.Tables.{Branches}
use Rattle.toml_subset.proofs.frames.Turns.{array_opens, table_opens}
use Rattle.toml_subset.specs.frames.Between.{next_place, entry_place}
use Rattle.toml_subset.specs.frames.Frames.{array_turn, table_on, IsValueStep}
use Rattle.toml_value.specs.TreeViews.{tree_view}
use Rattle.toml_value.proofs.TurnLemmas.{takes_same}
use Rattle.toml_value.proofs.values.opening_turn.Goals as goal

pub returns-in-Ok : goal.returns-in-Ok
returns-in-Ok c =
    let text = c.args.text.now in
    let at = c.args.at in
    let array : stands text at.place open_bracket ≡ true = sym (rw c.as_bytes.ensures.value at c.stands.ensures) ∙ c.if-stands.true in
    subst (IsValueStep text (at.place + 1) at.above (value_at text at.above at.place))
    (sym (c.array_turn.ensures ∙ ap (λ (items : Items). array_turn at.place at.above items c.in-Ok.next) c.new.ensures))
    (array_opens text at.above at.place c.in-Ok.next c.requires.opens c.requires.shallow array (sym c.in-Ok.ensures.next) c.in-Ok.ensures.goes c.in-Ok.ensures.within)

pub returns-else-stands : goal.returns-else-stands
returns-else-stands c =
    let text = c.args.text.now in
    let at = c.args.at in
    let table : stands text at.place open_bracket ≡ false = sym (rw c.as_bytes.ensures.value at c.stands.ensures) ∙ c.if-stands.false in
    let next = c.entry_place-next.result in
    let new = tree_view c.new-else-stands.result in
    let goes = c.entry_place-next.ensures.goes in
    let same = ap (λ (t : Branches). table_on text at.place at.above t (entry_place text (at.place + 1))) (sym c.new-else-stands.ensures)
    ∙ ap (table_on text at.place at.above new) (sym c.entry_place-next.ensures.next) in
    takes_same text (at.place + 1) (next_place next) at.above (table_on text at.place at.above new next) (value_at text at.above at.place) c.table_turn.result goes
    (table_opens text at.above at.place c.requires.opens c.requires.shallow table ∙ same) c.table_turn.ensures
