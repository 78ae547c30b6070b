use Rattle.std.proofs.Common.{◌≡◌}
use Rattle.diag_print.proofs.findings.index_pack.Given as goal

-- the files are seen as they were
abbrev pub invariant-findings : goal.invariant-findings
invariant-findings l =
    (goal.iterator-findings).can_next l.finding-iterator × (goal.iterator-findings).is_finite l.finding-iterator × (l.files ≡ l.initial.files)
