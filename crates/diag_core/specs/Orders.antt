-- The orders of levels and of codes.
use Rattle.std.specs.Prelude.{◌≡◌}
use Rattle.std.specs.Ordering.{nat_cmp}
use Rattle.std.specs.List.Sorted.{IsStrictlySortedBy}
use Rattle.diag_core.specs.declared.severity.Severity.{Severity}
use Rattle.diag_core.specs.contracts.severity.SeverityOrd.TheImpl as severity_order
use Rattle.diag_core.specs.contracts.code.DiagnosticCodeOrd.TheImpl as code_order
use Rattle.diag_core.specs.Severity.{severity_rank}
use Rattle.diag_core.specs.Code.{all_codes}

-- the levels are ordered by rank
abbrev pub SeveritiesRise : Type 0
SeveritiesRise = (x y : Severity) → severity_order.ghosts.cmp x y ≡ nat_cmp (severity_rank x) (severity_rank y)

-- each code is less than all that are listed after it
abbrev pub CodesRise : Type 0
CodesRise = IsStrictlySortedBy code_order.ghosts.cmp all_codes
