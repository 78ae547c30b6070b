use Rattle.std.proofs.Common.{◌≡◌, length, Some, None, refl, sym, ap, ◌∙◌, arith}
use Rattle.toml_subset.specs.Gaps.{goes_over}
use Rattle.toml_subset.specs.Places.{after_lines_of, behind_line_end}
use Rattle.toml_subset.proofs.Gaps.{lines_step, lines_stop}
use Rattle.toml_subset.proofs.scan.Gap.after_lines.Goals as goal

pub lines-init : goal.lines-init
lines-init c = (c.requires, (length c.args.text.now, omega arith, refl))

pub lines-preserved : goal.lines-preserved
lines-preserved c =
    let gap = c.args.self in
    let text = c.args.text.now in
    let left = c.lines.invariant.1 in
    let is : behind_line_end text (goes_over gap text c.lines.line) ≡ Some c.in-Some.next =
    sym (ap (behind_line_end text) c.over.ensures.end) ∙ sym c.line_end.ensures ∙ c.in-Some.is in
    let step = lines_step gap text (after_lines_of (goes_over gap) text c.args.place) c.lines.line c.in-Some.next left.0 left.1 left.2 is in
    (step.0, step.2)

pub lines-smaller : goal.lines-smaller
lines-smaller c =
    let gap = c.args.self in
    let text = c.args.text.now in
    let left = c.lines.invariant.1 in
    let is : behind_line_end text (goes_over gap text c.lines.line) ≡ Some c.in-Some.next =
    sym (ap (behind_line_end text) c.over.ensures.end) ∙ sym c.line_end.ensures ∙ c.in-Some.is in
    let step = lines_step gap text (after_lines_of (goes_over gap) text c.args.place) c.lines.line c.in-Some.next left.0 left.1 left.2 is in
    let inside = step.0 in
    let goes = step.1 in
    omega arith

pub returns-clause-end : goal.returns-clause-end
returns-clause-end c =
    let gap = c.args.self in
    let text = c.args.text.now in
    let left = c.lines.invariant.1 in
    let is : behind_line_end text (goes_over gap text c.lines.line) ≡ None = sym (ap (behind_line_end text) c.over.ensures.end) ∙ sym c.line_end.ensures ∙ c.in_default.is in
    lines_stop gap text (after_lines_of (goes_over gap) text c.args.place) c.lines.line left.0 left.2 is
