use Rattle.std.proofs.Common.{◌≡◌, ◌+◌, ◌≤◌, ◌-◌, length, drop, eqb}
use Rattle.std.specs.List.{prefix_len}
use Rattle.toml_subset.specs.Strings.{marks_in_row}
use Rattle.toml_subset.proofs.strings.marks_at.Given as goal

-- the marks counted so far, and those behind them, are all
abbrev pub invariant-marks : goal.invariant-marks
invariant-marks l =
    (l.marks ≤ 6) × (l.place + l.marks ≤ length l.text)
    × (marks_in_row l.mark l.text l.place ≡ l.marks + prefix_len (λ c. eqb c l.mark) (drop (l.place + l.marks) l.text))

abbrev pub decreases-marks : goal.decreases-marks
decreases-marks l = 6 - l.marks
