use Rattle.std.proofs.Common.{◌≡◌, ◌++◌, map, take, drop}
use Rattle.diag_core.specs.Overrides.{finding_at_level}
use Rattle.diag_core.proofs.overrides.DiagnosticOverrides.apply_all.Given as goal

-- those so far are at their levels, and the others are as they were
abbrev pub invariant-findings : goal.invariant-findings
invariant-findings l = l.findings ≡ map (finding_at_level l.self) (take l.finding-index l.fn.findings) ++ drop l.finding-index l.fn.findings
