use Rattle.toml_subset.specs.StringReading.{KeysFound}
use Rattle.toml_value.specs.LevelViews.{cursor_view}
use Rattle.toml_value.proofs.ReaderLemmas.{pair_is, pair_refused}
use Rattle.toml_value.proofs.reader.pair_line.Goals as goal

pub returns-in-Ok-await_value-clause-answer : goal.returns-in-Ok-await_value-clause-answer
returns-in-Ok-await_value-clause-answer c seen way =
    let left : KeysFound = (c.in-Ok.keys, c.in-Ok.value) in
    pair_is c.args.text.now seen (cursor_view c.args.document) left c.args.place way c.in-Ok.ensures.answer c.in-Ok-await_value.pending c.behind_equals.result c.in-Ok-await_value.ensures
    c.behind_equals.ensures.answer

pub returns-in-Err-await_value-clause-answer : goal.returns-in-Err-await_value-clause-answer
returns-in-Err-await_value-clause-answer c seen way =
    let left : KeysFound = (c.in-Ok.keys, c.in-Ok.value) in
    pair_refused c.args.text.now seen (cursor_view c.args.document) left c.args.place way c.in-Ok.ensures.answer c.in-Err-await_value.fault c.in-Err-await_value.ensures
