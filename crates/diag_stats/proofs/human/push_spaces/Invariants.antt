use Rattle.std.proofs.Common.{◌≡◌, ◌++◌, string_bytes}
use Rattle.std.specs.Prelude.{replicate}
use Rattle.diag_stats.specs.Human.{space}
use Rattle.diag_stats.proofs.human.push_spaces.Given as goal

-- so many spaces were written
abbrev pub invariant-spaces : goal.invariant-spaces
invariant-spaces l = string_bytes l.out ≡ string_bytes l.initial.out ++ replicate l._place space
