use Rattle.std.proofs.Common.{◌≡◌, ◌++◌, string_bytes, take}
use Rattle.std.specs.List.{flat_map}
use Rattle.check_why.specs.Lines.{unmet_line}
use Rattle.check_why.proofs.lines.push_unmet.Given as goal

-- a line was written for each so far
abbrev pub invariant-unmet : goal.invariant-unmet
invariant-unmet l = string_bytes l.out ≡ string_bytes l.initial.out ++ flat_map unmet_line (take l.one-index l.unmet)
