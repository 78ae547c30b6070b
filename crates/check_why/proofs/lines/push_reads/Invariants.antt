use Rattle.std.proofs.Common.{◌≡◌, ◌++◌, string_bytes, take}
use Rattle.std.specs.List.{flat_map}
use Rattle.check_why.specs.Lines.{read_line}
use Rattle.check_why.proofs.lines.push_reads.Given as goal

-- a line was written for each read so far
abbrev pub invariant-reads : goal.invariant-reads
invariant-reads l = string_bytes l.out ≡ string_bytes l.initial.out ++ flat_map read_line (take l.read-index l.reads)
