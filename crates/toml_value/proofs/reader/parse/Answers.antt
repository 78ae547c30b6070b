use Rattle.std.proofs.Common.{◌≡◌, ◌<◌, ◌≤◌, ℕ, length, Ok, Err, sym, ap, subst, ◌∙◌, arith}
use Rattle.toml_subset.specs.Places.{after_blanks}
use Rattle.toml_subset.specs.Reading.{line_from}
use Rattle.toml_subset.proofs.Law.Whole.{text_sound, line_forward}
use Rattle.toml_subset.specs.frames.LinesRead.{AreLinesRead}
use Rattle.toml_subset.proofs.frames.LinesRead.{lines_begin, lines_end}
use Rattle.toml_subset.proofs.text_laws.Texts.{text_placed}
use Rattle.toml_value.specs.LevelViews.{cursor_view, IsLineRead}
use Rattle.toml_value.specs.Views.{value_view}
use Rattle.toml_value.proofs.ReaderLemmas.{way_low, line_on, text_refused, outside_by, first_by}
use Rattle.toml_value.proofs.reader.parse.Goals as goal

pub lines-init : goal.lines-init
lines-init c = subst (λ x. AreLinesRead c.args.text.now x 0) (sym c.new-document.ensures) (lines_begin c.args.text.now)

pub read_line-requires-clause-shallow : goal.read_line-requires-clause-shallow
read_line-requires-clause-shallow c = way_low c.lines.invariant.document (cursor_view c.lines.document) c.lines.invariant.way

pub lines-preserved : goal.lines-preserved
lines-preserved c =
    let text = c.args.text.now in
    let are = c.lines.invariant in
    let place : c.after_blanks.result ≡ after_blanks text c.lines.place = c.after_blanks.ensures.end ∙ ap (λ b. after_blanks b c.lines.place) c.as_bytes-bytes.ensures.value in
    let read = subst (λ (i : ℕ). IsLineRead (line_from text are.document i) (Ok (c.in-Ok.further, c.in-Ok.next))) place (c.in-Ok.ensures.answer are.document are.way) in
    line_on text (cursor_view c.lines.document) c.in-Ok.further c.lines.place c.in-Ok.next are (omega (arith, c.lines-test.true)) c.in-Ok.ensures.within read

pub returns-in-Err-clause-answer : goal.returns-in-Err-clause-answer
returns-in-Err-clause-answer c =
    let text = c.args.text.now in
    let are = c.lines.invariant in
    let place : c.after_blanks.result ≡ after_blanks text c.lines.place = c.after_blanks.ensures.end ∙ ap (λ b. after_blanks b c.lines.place) c.as_bytes-bytes.ensures.value in
    let read = subst (λ (i : ℕ). IsLineRead (line_from text are.document i) (Err c.in-Err.error)) place (c.in-Err.ensures.answer are.document are.way) in
    text_refused (λ value. value_view value) text (cursor_view c.lines.document) c.lines.place c.in-Err.error are (omega (arith, c.lines-test.true)) read

pub returns-clause-answer : goal.returns-clause-answer
returns-clause-answer c =
    let text = c.args.text.now in
    let are = c.lines.invariant in
    lines_end text (cursor_view c.lines.document) c.lines.place are (omega (arith, c.lines-test.false)) ∙ ap Ok (sym (c.in_ok-value.ensures are.document are.way))

pub returns-clause-value : goal.returns-clause-value
returns-clause-value c =
    let text = c.args.text.now in
    let are = c.lines.invariant in
    text_sound text (value_view c.in_ok-value.value)
    (lines_end text (cursor_view c.lines.document) c.lines.place are (omega (arith, c.lines-test.false)) ∙ ap Ok (sym (c.in_ok-value.ensures are.document are.way)))

pub lines-smaller : goal.lines-smaller
lines-smaller c =
    let text = c.args.text.now in
    let are = c.lines.invariant in
    let place : c.after_blanks.result ≡ after_blanks text c.lines.place = c.after_blanks.ensures.end ∙ ap (λ b. after_blanks b c.lines.place) c.as_bytes-bytes.ensures.value in
    let read = subst (λ (i : ℕ). IsLineRead (line_from text are.document i) (Ok (c.in-Ok.further, c.in-Ok.next))) place (c.in-Ok.ensures.answer are.document are.way) in
    let inside : c.lines.place < length text = omega (arith, c.lines-test.true) in
    let ahead : c.lines.place < c.in-Ok.next = line_forward text c.lines.place are.document (read.0, c.in-Ok.next) inside are.way.low read.1 in
    let within : c.in-Ok.next ≤ length text = c.in-Ok.ensures.within in
    omega arith

pub returns-in-Err-clause-outside : goal.returns-in-Err-clause-outside
returns-in-Err-clause-outside c =
    let text = c.args.text.now in
    let are = c.lines.invariant in
    let place : c.after_blanks.result ≡ after_blanks text c.lines.place = c.after_blanks.ensures.end ∙ ap (λ b. after_blanks b c.lines.place) c.as_bytes-bytes.ensures.value in
    let read = subst (λ (i : ℕ). IsLineRead (line_from text are.document i) (Err c.in-Err.error)) place (c.in-Err.ensures.answer are.document are.way) in
    outside_by (λ value. value_view value) text c.in-Err.error
    (text_refused (λ value. value_view value) text (cursor_view c.lines.document) c.lines.place c.in-Err.error are (omega (arith, c.lines-test.true)) read)

pub returns-clause-spans : goal.returns-clause-spans
returns-clause-spans c =
    let text = c.args.text.now in
    let are = c.lines.invariant in
    text_placed text c.utf8.text (value_view c.in_ok-value.value)
    (text_sound text (value_view c.in_ok-value.value)
    (lines_end text (cursor_view c.lines.document) c.lines.place are (omega (arith, c.lines-test.false)) ∙ ap Ok (sym (c.in_ok-value.ensures are.document are.way))))

pub returns-in-Err-clause-place : goal.returns-in-Err-clause-place
returns-in-Err-clause-place c =
    let text = c.args.text.now in
    let are = c.lines.invariant in
    let place : c.after_blanks.result ≡ after_blanks text c.lines.place = c.after_blanks.ensures.end ∙ ap (λ b. after_blanks b c.lines.place) c.as_bytes-bytes.ensures.value in
    let read = subst (λ (i : ℕ). IsLineRead (line_from text are.document i) (Err c.in-Err.error)) place (c.in-Err.ensures.answer are.document are.way) in
    first_by (λ value. value_view value) text c.utf8.text c.in-Err.error
    (text_refused (λ value. value_view value) text (cursor_view c.lines.document) c.lines.place c.in-Err.error are (omega (arith, c.lines-test.true)) read)
