use Rattle.std.proofs.Common.{◌+◌, ◌<◌, sym, arith}
use Rattle.toml_subset.proofs.frames.Goings.{entries_shallow}
use Rattle.toml_subset.proofs.frames.Turns.{table_behind}
use Rattle.toml_subset.specs.frames.Between.{next_place}
use Rattle.toml_subset.specs.frames.Frames.{in_table, on_with, table_on}
use Rattle.toml_value.specs.StackViews.{value_found}
use Rattle.toml_value.specs.TreeViews.{tree_view}
use Rattle.toml_value.proofs.TurnLemmas.{takes_same}
use Rattle.toml_value.proofs.values.behind_pair.Goals as goal

pub table_turn-requires-clause-shallow : goal.table_turn-requires-clause-shallow
table_turn-requires-clause-shallow c =
    let at = c.args.at in
    let a = c.args.awaiting in
    entries_shallow at.place at.above (tree_view a.tree) a.keys (value_found (c.args.value, c.args.next)) (tree_view c.in_ok-tree.tree) c.requires.shallow c.requires.value c.in_ok-tree.ensures

pub returns-in-Ok : goal.returns-in-Ok
returns-in-Ok c =
    let text = c.args.text.now in
    let at = c.args.at in
    let a = c.args.awaiting in
    let new = tree_view c.in_ok-tree.tree in
    let v = value_found (c.args.value, c.args.next) in
    let low = entries_shallow at.place at.above (tree_view a.tree) a.keys v new c.requires.shallow c.requires.value c.in_ok-tree.ensures in
    let ahead : c.args.next < next_place c.in-Ok.next = c.in-Ok.ensures.goes in
    takes_same text (c.args.next + 1) (next_place c.in-Ok.next) at.above (table_on text at.place at.above new c.in-Ok.next)
    (on_with text (in_table at.place at.above (tree_view a.tree) a.keys) v) c.table_turn.result (omega arith)
    (table_behind text at.place at.above (tree_view a.tree) a.keys v new c.in-Ok.next c.in_ok-tree.ensures low (sym c.in-Ok.ensures.next)) c.table_turn.ensures
