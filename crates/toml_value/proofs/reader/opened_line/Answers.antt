use Rattle.toml_subset.specs.frames.Levels.{into_header}
use Rattle.toml_value.specs.LevelViews.{cursor_view}
use Rattle.toml_value.proofs.ReaderLemmas.{header_ends, header_refused}
use Rattle.toml_value.proofs.reader.opened_line.Goals as goal

pub returns-in-Ok-clause-answer : goal.returns-in-Ok-clause-answer
returns-in-Ok-clause-answer c fault made is =
    header_ends c.args.text.now c.args.place c.args.keys fault made (into_header c.args.last c.args.keys (cursor_view c.args.document)) is (cursor_view c.in-Ok.document) c.ended_line.result
    c.in-Ok.ensures c.ended_line.ensures.answer

pub returns-in-Err-clause-answer : goal.returns-in-Err-clause-answer
returns-in-Err-clause-answer c fault made is =
    header_refused c.args.text.now c.args.place c.args.keys fault made (into_header c.args.last c.args.keys (cursor_view c.args.document)) is (λ d. cursor_view d) c.in-Err.error c.in-Err.ensures
