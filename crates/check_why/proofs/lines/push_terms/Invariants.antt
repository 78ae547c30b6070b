use Rattle.std.proofs.Common.{◌≡◌, ◌++◌, string_bytes, take}
use Rattle.std.specs.List.{flat_map}
use Rattle.check_why.specs.Lines.{term_line}
use Rattle.check_why.proofs.lines.push_terms.Given as goal

-- a line was written for each term so far
abbrev pub invariant-terms : goal.invariant-terms
invariant-terms l = string_bytes l.out ≡ string_bytes l.initial.out ++ flat_map term_line (take l.term-index l.terms)
