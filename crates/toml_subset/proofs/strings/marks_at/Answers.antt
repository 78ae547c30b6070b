use Rattle.std.proofs.Common.{◌≡◌, ◌+◌, drop, eqb, true, sym, ap, ◌∙◌, arith}
use Rattle.std.specs.List.{prefix_len}
use Rattle.toml_subset.specs.Places.{passes_at}
use Rattle.toml_subset.specs.Strings.{marks_in_row}
use Rattle.toml_subset.proofs.PlainRuns.{run_more}
use Rattle.toml_subset.proofs.Runs.{byte_passes}
use Rattle.toml_subset.proofs.strings.marks_at.Goals as goal

pub marks-preserved : goal.marks-preserved
marks-preserved c =
    let text = c.args.text.now in
    let mark = c.args.mark in
    let marks = c.marks.marks in
    let here : passes_at (λ b. eqb b mark) text (c.args.place + marks) ≡ true = sym c.stands.ensures ∙ c.if-stands.true in
    let inside = (byte_passes (λ b. eqb b mark) text (c.args.place + marks) here).0 in
    let next : c.args.place + marks + 1 ≡ c.args.place + (marks + 1) = omega arith in
    let rest = prefix_len (λ b. eqb b mark) (drop (c.args.place + (marks + 1)) text) in
    let one : marks + (1 + rest) ≡ marks + 1 + rest = omega arith in
    let all : marks_in_row mark text c.args.place ≡ marks + 1 + rest =
    c.marks.invariant.2 ∙ ap (λ n. marks + n) (run_more (λ b. eqb b mark) text (c.args.place + marks) here)
    ∙ ap (λ k. marks + (1 + prefix_len (λ b. eqb b mark) (drop k text))) next ∙ one in
    (omega arith, omega arith, all)
