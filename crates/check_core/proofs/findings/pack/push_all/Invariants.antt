-- The pack with the findings so far.
use Rattle.std.proofs.Common.{◌≡◌, ◌++◌, map}
use Rattle.diag_core.specs.Pack.{with_crate}
use Rattle.check_core.proofs.findings.pack.push_all.Given as goal

abbrev pub invariant-findings : goal.invariant-findings
invariant-findings l = l.pack ≡ record l.fn.pack { findings = l.fn.pack.findings ++ map (with_crate l.fn.pack.kid) l.yielded }
