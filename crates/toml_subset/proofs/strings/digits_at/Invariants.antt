use Rattle.std.proofs.Common.{◌≡◌, ◌+◌, ◌≤◌, ◌-◌, length, drop}
use Rattle.std.specs.List.{prefix_len}
use Rattle.toml_subset.specs.Numbers.{is_digit_in}
use Rattle.toml_subset.proofs.strings.digits_at.Given as goal

-- the digits counted so far, and those behind them, are all
abbrev pub invariant-digits : goal.invariant-digits
invariant-digits l =
    (l.found ≤ l.most) × (l.place + l.found ≤ length l.text)
    × (prefix_len (is_digit_in 16) (drop l.place l.text) ≡ l.found + prefix_len (is_digit_in 16) (drop (l.place + l.found) l.text))

abbrev pub decreases-digits : goal.decreases-digits
decreases-digits l = l.most - l.found
