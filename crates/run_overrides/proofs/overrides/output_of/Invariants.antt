use Rattle.std.proofs.Common.{◌≡◌, drop}
use Rattle.run_overrides.specs.Put.{output_of}
use Rattle.run_overrides.proofs.overrides.output_of.Given as goal

-- the pairs that are left decide
abbrev pub invariant-pairs : goal.invariant-pairs
invariant-pairs l = output_of (drop l.pair-index l.pairs) l.input ≡ output_of l.pairs l.input
