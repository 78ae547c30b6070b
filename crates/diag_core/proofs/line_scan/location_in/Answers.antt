use Rattle.std.proofs.Common.{◌∙◌, ap, arith}
use Rattle.std.specs.List.{count_by, slice_range}
use Rattle.diag_core.specs.Position.{begins_character}
use Rattle.diag_core.proofs.ScanLemmas.{line_start_within}
use Rattle.diag_core.proofs.line_scan.location_in.Goals as goal

pub slice_bounds-character_count-count : goal.slice_bounds-character_count-count
slice_bounds-character_count-count c = omega (arith, line_start_within c.args.bytes.now c.args.end c.requires, c.start_before-start.ensures)

pub slice_bounds-character_count-start : goal.slice_bounds-character_count-start
slice_bounds-character_count-start c = omega (arith, line_start_within c.args.bytes.now c.args.end c.requires, c.start_before-start.ensures)

pub returns-clause-column : goal.returns-clause-column
returns-clause-column c =
    c.character_count.ensures ∙ ap (λ from. count_by begins_character (slice_range c.args.bytes.now from c.args.end)) c.start_before-start.ensures
