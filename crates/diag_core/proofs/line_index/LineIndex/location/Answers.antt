use Rattle.std.proofs.Common.{◌≡◌, ◌≤◌, ◌-◌, ap, ◌∙◌, arith}
use Rattle.std.specs.List.{count_by, slice_range}
use Rattle.diag_core.specs.Position.{begins_character, line_start, column_of}
use Rattle.diag_core.proofs.BlockLemmas.{count_split}
use Rattle.diag_core.proofs.line_index.LineIndex.location.Goals as goal

pub overflow_sub-result : goal.overflow_sub-result
overflow_sub-result c =
    let text = c.args.text.now in
    let start = c.line_start-start.result in
    let ordered : start ≤ c.args.place = omega (arith, c.line_start-start.ensures, c.line_index-line.ensures.start) in
    omega (arith, c.characters_before-before.ensures, c.characters_before.ensures, count_split begins_character text start c.args.place ordered c.requires.within)

pub returns-clause-column : goal.returns-clause-column
returns-clause-column c =
    let text = c.args.text.now in
    let start = c.line_start-start.result in
    let ordered : start ≤ c.args.place = omega (arith, c.line_start-start.ensures, c.line_index-line.ensures.start) in
    let count : c.characters_before.result - c.characters_before-before.result ≡ count_by begins_character (slice_range text start c.args.place) =
    omega (arith, c.characters_before-before.ensures, c.characters_before.ensures, count_split begins_character text start c.args.place ordered c.requires.within) in
    count ∙ ap (λ from. count_by begins_character (slice_range text from c.args.place)) (c.line_start-start.ensures ∙ ap (line_start text) c.line_index-line.ensures.line)
