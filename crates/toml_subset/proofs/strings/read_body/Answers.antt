use Rattle.std.proofs.Common.{◌≡◌, ◌-◌, ◌++◌, [], true, false, Ok, Err, take, drop, sym, ap, subst, ◌∙◌}
use Rattle.std.specs.Prelude.{string_bytes}
use Rattle.toml_subset.specs.Places.{from_to}
use Rattle.toml_subset.specs.StringViews.{kind_of, meaning_of, part_of, IsStringRead}
use Rattle.toml_subset.specs.Strings.{part_at, closing, broken, escaped_piece}
use Rattle.toml_subset.specs.Written.{WrittenString}
use Rattle.toml_subset.proofs.PlainRuns.{read_nothing, read_piece, read_run, string_closed, string_broken}
use Rattle.toml_subset.proofs.strings.read_body.Goals as goal

pub read_escaped-requires-clause-left : goal.read_escaped-requires-clause-left
read_escaped-requires-clause-left c =
    let kind = kind_of c.args.quotes in
    let text = c.args.text.now in
    let first = c.args.first in
    let end = c.plain_end-end.result in
    let inside = c.plain_end-end.ensures.border.0 in
    let read = read_run kind text first [] false first end inside (read_nothing kind text first) c.plain_end-end.ensures.run in
    let part : part_at kind text end ≡ escaped_piece (meaning_of c.in-Escape.meaning) c.in-Escape.next = sym c.special_at.ensures.part ∙ ap part_of c.in-Escape.is in
    let next = read_piece kind text first (take (end - first) (drop first text)) false end (record { means = meaning_of c.in-Escape.meaning; escape = true }) c.in-Escape.next inside read part in
    let held : string_bytes c.push_str.new.self ≡ take (end - first) (drop first text) =
    c.in_ok-push_str-in-Escape.ensures.bytes ∙ ap (λ s. s ++ c.range-in-Escape.result.now) c.new-held.ensures.bytes ∙ c.range-in-Escape.ensures.value in
    let all : string_bytes c.push_meaning.new.held ≡ take (end - first) (drop first text) ++ meaning_of c.in-Escape.meaning =
    c.in_ok-push_meaning-in-Escape.ensures ∙ ap (λ s. s ++ meaning_of c.in-Escape.meaning) held in
    subst (λ s. IsStringRead kind text first s true c.in-Escape.next) (sym all) next

pub returns-in-Closing-clause-answer : goal.returns-in-Closing-clause-answer
returns-in-Closing-clause-answer c =
    let kind = kind_of c.args.quotes in
    let text = c.args.text.now in
    let first = c.args.first in
    let end = c.plain_end-end.result in
    let inside = c.plain_end-end.ensures.border.0 in
    let read = read_run kind text first [] false first end inside (read_nothing kind text first) c.plain_end-end.ensures.run in
    let part : part_at kind text end ≡ closing c.in-Closing.next = sym c.special_at.ensures.part ∙ ap part_of c.in-Closing.is in
    let string : c.plain_string.result ≡ record { text = take (end - first) (drop first text); escaped = false } =
    c.plain_string.ensures ∙ ap (λ s. record { text = s; escaped = false }) c.range.ensures.value in
    string_closed kind text first (take (end - first) (drop first text)) false end c.in-Closing.next inside read part
    ∙ ap (λ (w : WrittenString). Ok (w, from_to first end, c.in-Closing.next)) (sym string)

pub returns-in-Broken-clause-answer : goal.returns-in-Broken-clause-answer
returns-in-Broken-clause-answer c =
    let kind = kind_of c.args.quotes in
    let text = c.args.text.now in
    let first = c.args.first in
    let end = c.plain_end-end.result in
    let inside = c.plain_end-end.ensures.border.0 in
    let read = read_run kind text first [] false first end inside (read_nothing kind text first) c.plain_end-end.ensures.run in
    let part : part_at kind text end ≡ broken = sym c.special_at.ensures.part ∙ ap part_of c.in-Broken.is in
    string_broken kind text first (take (end - first) (drop first text)) false end inside read part ∙ ap (λ x. Err x) (sym c.part_fault.ensures)
