-- Texts that are cut in two.
use Rattle.std.specs.Prelude.{ℕ, ◌==◌, nat_lt, Bool, List, length, Option, Some, None, if◌then◌else◌}
use Rattle.std.specs.List.{position_or_len, before_first, after_first}

abbrev pub is_at_sign : ℕ → Bool
is_at_sign byte = byte == 64

abbrev pub is_colon : ℕ → Bool
is_colon byte = byte == 58

-- what is before the first such byte, and what is behind it; none without one
abbrev pub cut_at : (ℕ → Bool) → List ℕ → Option (List ℕ × List ℕ)
cut_at is_mark text =
    if nat_lt (position_or_len is_mark text) (length text)
    then Some (before_first is_mark text, after_first is_mark text) else None
