use Rattle.std.proofs.Common.{◌≡◌, ◌≤◌, nat_le, true, sym, ◌∙◌, arith}
use Rattle.std.proofs.lemmas.Bool.Decides.{nat_tests}
use Rattle.toml_subset.specs.Strings.{marks_in_row}
use Rattle.toml_subset.proofs.PlainRuns.{marks_inside}
use Rattle.toml_subset.proofs.strings.opening.Goals as goal

pub behind_three-requires : goal.behind_three-requires
behind_three-requires c =
    let text = c.args.text.now in
    let within = marks_inside 34 text c.args.place c.requires in
    let three : nat_le 3 (marks_in_row 34 text c.args.place) ≡ true = sym c.has_three.ensures ∙ c.if-has_three.true in
    let many : 3 ≤ marks_in_row 34 text c.args.place = grind (arith, nat_tests) in
    omega arith

pub behind_three-requires-then-has_three-2 : goal.behind_three-requires-then-has_three-2
behind_three-requires-then-has_three-2 c =
    let text = c.args.text.now in
    let within = marks_inside 39 text c.args.place c.requires in
    let three : nat_le 3 (marks_in_row 39 text c.args.place) ≡ true = sym c.has_three-then-stands-2.ensures ∙ c.if-has_three-2.true in
    let many : 3 ≤ marks_in_row 39 text c.args.place = grind (arith, nat_tests) in
    omega arith
