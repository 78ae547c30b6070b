use Rattle.std.proofs.Common.{◌+◌, ap, sym, subst, ◌∙◌}
use Rattle.toml_subset.specs.StringReading.{KeysFound}
use Rattle.toml_subset.specs.TableFaults.{put_fault}
use Rattle.toml_subset.proofs.frames.Turns.{entry_turn_is}
use Rattle.toml_subset.specs.declared.frames.between.Next.TheVariants.{Further}
use Rattle.toml_subset.specs.frames.Frames.{in_table, waits, table_on, IsValueStep}
use Rattle.toml_value.specs.TreeViews.{tree_view}
use Rattle.toml_value.proofs.TurnLemmas.{awaited}
use Rattle.toml_value.proofs.values.entry_turn.Goals as goal

pub returns-in-Ok-await_value : goal.returns-in-Ok-await_value
returns-in-Ok-await_value c =
    let text = c.args.text.now in
    let at = c.args.at in
    let tree = tree_view c.args.tree in
    let a = c.in-Ok-await_value.awaiting in
    let left : KeysFound = (c.in-Ok.keys, c.in-Ok.next) in
    let is = awaited (put_fault c.in-Ok.keys tree (at.above + 1)) c.in-Ok.keys tree a c.in-Ok-await_value.ensures in
    let frame = ap (λ t. in_table at.place at.above t a.keys) is.tree_is ∙ ap (λ keys. in_table at.place at.above tree keys) is.keys_are in
    subst (λ f. IsValueStep text c.args.place at.above (table_on text at.place at.above tree (Further c.args.place)) (waits f c.in-Ok.next)) (sym frame)
    (entry_turn_is text at.place at.above tree c.args.place left c.requires.shallow c.in-Ok.ensures.answer is.free c.in-Ok.ensures.within)
