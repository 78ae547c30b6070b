use Rattle.std.proofs.Common.{◌≡◌, drop}
use Rattle.diag_core.specs.Overrides.{first_output_of}
use Rattle.diag_core.proofs.overrides.first_output.Given as goal

-- the pairs that are left decide
abbrev pub invariant-pairs : goal.invariant-pairs
invariant-pairs l = first_output_of (drop l.pair-index l.pairs) l.severity ≡ first_output_of l.pairs l.severity
