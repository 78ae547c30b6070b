use Rattle.std.proofs.Common.{◌≡◌, ◌-◌, ◌<◌, ◌++◌, true, Ok, Err, take, drop, sym, ap, subst, ◌∙◌, arith}
use Rattle.std.specs.Prelude.{string_bytes}
use Rattle.toml_subset.specs.Places.{from_to}
use Rattle.toml_subset.specs.StringViews.{kind_of, meaning_of, part_of, IsStringRead}
use Rattle.toml_subset.specs.Strings.{part_at, closing, broken, escaped_piece}
use Rattle.toml_subset.specs.Written.{WrittenString}
use Rattle.toml_subset.proofs.Law.Forward.{piece_goes}
use Rattle.toml_subset.proofs.PlainRuns.{read_piece, read_run, string_closed, string_broken}
use Rattle.toml_subset.proofs.strings.read_escaped.Goals as goal

pub returns-in-Closing-clause-answer : goal.returns-in-Closing-clause-answer
returns-in-Closing-clause-answer c =
    let kind = kind_of c.args.quotes in
    let text = c.args.text.now in
    let end = c.plain_end-end.result in
    let inside = c.plain_end-end.ensures.border.0 in
    let means = string_bytes c.parts.held ++ take (end - c.parts.place) (drop c.parts.place text) in
    let read = read_run kind text c.args.first (string_bytes c.parts.held) true c.parts.place end inside c.parts.invariant.1 c.plain_end-end.ensures.run in
    let part : part_at kind text end ≡ closing c.in-Closing.next = sym c.special_at.ensures.part ∙ ap part_of c.in-Closing.is in
    let held : string_bytes c.push_str.new.self ≡ means = c.in_ok-push_str.ensures.bytes ∙ ap (λ s. string_bytes c.parts.held ++ s) c.range.ensures.value in
    let string : c.escaped_string.result ≡ record { text = means; escaped = true } =
    c.escaped_string.ensures ∙ ap (λ s. record { text = s; escaped = true }) (c.from.ensures ∙ held) in
    string_closed kind text c.args.first means true end c.in-Closing.next inside read part
    ∙ ap (λ (w : WrittenString). Ok (w, from_to c.args.first end, c.in-Closing.next)) (sym string)

pub parts-smaller : goal.parts-smaller
parts-smaller c =
    let kind = kind_of c.args.quotes in
    let text = c.args.text.now in
    let end = c.plain_end-end.result in
    let part : part_at kind text end ≡ escaped_piece (meaning_of c.in-Escape.meaning) c.in-Escape.next = sym c.special_at.ensures.part ∙ ap part_of c.in-Escape.is in
    let goes : end < c.in-Escape.next = piece_goes kind text end (record { means = meaning_of c.in-Escape.meaning; escape = true }) c.in-Escape.next part in
    let ordered = c.plain_end-end.ensures.run.ordered in
    let within = c.in-Escape.ensures.goes.0 in
    omega arith

pub parts-preserved : goal.parts-preserved
parts-preserved c =
    let kind = kind_of c.args.quotes in
    let text = c.args.text.now in
    let end = c.plain_end-end.result in
    let inside = c.plain_end-end.ensures.border.0 in
    let means = string_bytes c.parts.held ++ take (end - c.parts.place) (drop c.parts.place text) in
    let read = read_run kind text c.args.first (string_bytes c.parts.held) true c.parts.place end inside c.parts.invariant.1 c.plain_end-end.ensures.run in
    let part : part_at kind text end ≡ escaped_piece (meaning_of c.in-Escape.meaning) c.in-Escape.next = sym c.special_at.ensures.part ∙ ap part_of c.in-Escape.is in
    let next = read_piece kind text c.args.first means true end (record { means = meaning_of c.in-Escape.meaning; escape = true }) c.in-Escape.next inside read part in
    let held : string_bytes c.push_str.new.self ≡ means = c.in_ok-push_str.ensures.bytes ∙ ap (λ s. string_bytes c.parts.held ++ s) c.range.ensures.value in
    let all : string_bytes c.push_meaning.new.held ≡ means ++ meaning_of c.in-Escape.meaning =
    c.in_ok-push_meaning-in-Escape.ensures ∙ ap (λ s. s ++ meaning_of c.in-Escape.meaning) held in
    (c.in-Escape.ensures.goes.1, subst (λ s. IsStringRead kind text c.args.first s true c.in-Escape.next) (sym all) next)

pub returns-in-Broken-clause-answer : goal.returns-in-Broken-clause-answer
returns-in-Broken-clause-answer c =
    let kind = kind_of c.args.quotes in
    let text = c.args.text.now in
    let end = c.plain_end-end.result in
    let inside = c.plain_end-end.ensures.border.0 in
    let means = string_bytes c.parts.held ++ take (end - c.parts.place) (drop c.parts.place text) in
    let read = read_run kind text c.args.first (string_bytes c.parts.held) true c.parts.place end inside c.parts.invariant.1 c.plain_end-end.ensures.run in
    let part : part_at kind text end ≡ broken = sym c.special_at.ensures.part ∙ ap part_of c.in-Broken.is in
    string_broken kind text c.args.first means true end inside read part ∙ ap (λ x. Err x) (sym c.part_fault.ensures)
