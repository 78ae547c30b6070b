use Rattle.std.proofs.Common.{◌≡◌, ◌++◌, string_bytes, take}
use Rattle.std.specs.List.{flat_map}
use Rattle.check_why.specs.Lines.{behind_arrow}
use Rattle.check_why.proofs.lines.push_walk.Given as goal

-- each crate so far is behind the first
abbrev pub invariant-rest : goal.invariant-rest
invariant-rest l = string_bytes l.out ≡ string_bytes l.initial.out ++ flat_map behind_arrow (take l.title-index l.rest)
