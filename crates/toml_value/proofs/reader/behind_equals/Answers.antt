use Rattle.std.proofs.Common.{◌≡◌, ℕ, ◌+◌, ◌-◌, length, Ok, Err, subst, arith}
use Rattle.toml_subset.specs.Answer.{AnswersToml}
use Rattle.toml_subset.specs.Reading.{value_at, pair_put}
use Rattle.toml_value.specs.LevelViews.{cursor_view, pending_view}
use Rattle.toml_value.specs.StackViews.{value_found}
use Rattle.toml_value.proofs.ReaderLemmas.{value_low, pair_ends, refused_line}
use Rattle.toml_value.proofs.reader.behind_equals.Goals as goal

pub read_value-requires-clause-shallow : goal.read_value-requires-clause-shallow
read_value-requires-clause-shallow c =
    let p = c.args.pending in
    let room = p.room in
    let some = p.awaiting.some in
    let above = c.inside.ensures in
    omega arith

pub returns-in_ok-document-in-Ok-clause-answer : goal.returns-in_ok-document-in-Ok-clause-answer
returns-in_ok-document-in-Ok-clause-answer c seen way =
    let text = c.args.text.now in
    let p = c.args.pending in
    let keys = p.awaiting.keys in
    let above : ℕ = p.above + (length keys - 1) in
    let v = value_found (c.in-Ok.value, c.in-Ok.next) in
    let room = p.room in
    let some = p.awaiting.some in
    let read : value_at text above c.args.place ≡ Ok v = subst (λ n. value_at text n c.args.place ≡ Ok v) c.inside.ensures c.in-Ok.ensures.answer in
    let low = value_low text above c.args.place v (omega arith) read in
    pair_ends text seen (pending_view p) (cursor_view c.in_ok-document-in-Ok.document) keys v (value_at text above c.args.place) c.ended_line.result way p.free read low
    c.in_ok-document-in-Ok.ensures.0 c.in_ok-document-in-Ok.ensures.1 c.ended_line.ensures.answer

pub returns-in-Err-clause-answer : goal.returns-in-Err-clause-answer
returns-in-Err-clause-answer c seen way =
    let text = c.args.text.now in
    let p = c.args.pending in
    let keys = p.awaiting.keys in
    let above : ℕ = p.above + (length keys - 1) in
    refused_line value_found (pair_put text keys seen) (value_at text above c.args.place) c.in-Err.error
    (subst (λ n. AnswersToml value_found (value_at text n c.args.place) (Err c.in-Err.error)) c.inside.ensures c.in-Err.ensures.answer)
