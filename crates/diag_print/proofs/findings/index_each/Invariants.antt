use Rattle.std.proofs.Common.{◌≡◌}
use Rattle.diag_print.proofs.findings.index_each.Given as goal

-- the files are seen as they were
abbrev pub invariant-packs : goal.invariant-packs
invariant-packs l = l.files ≡ l.initial.files
