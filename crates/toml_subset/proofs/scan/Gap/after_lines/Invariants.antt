use Rattle.std.proofs.Common.{◌≡◌, ℕ, ◌+◌, ◌≤◌, ◌-◌, length}
use Rattle.toml_subset.specs.Gaps.{goes_over}
use Rattle.toml_subset.specs.Places.{lines_over, after_lines_of}
use Rattle.toml_subset.proofs.scan.Gap.after_lines.Given as goal

-- the lines left lead to the same place
abbrev pub invariant-lines : goal.invariant-lines
invariant-lines l =
    (l.line ≤ length l.text)
    × ((n : ℕ) × (length l.text ≤ l.line + n) × (after_lines_of (goes_over l.self) l.text l.place ≡ lines_over (goes_over l.self) n l.text l.line))

abbrev pub decreases-lines : goal.decreases-lines
decreases-lines l = length l.text - l.line
