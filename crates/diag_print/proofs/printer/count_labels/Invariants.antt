use Rattle.std.proofs.Common.{◌≡◌}
use Rattle.diag_print.proofs.printer.count_labels.Given as goal

-- the files are seen as they were
abbrev pub invariant-labels : goal.invariant-labels
invariant-labels l = l.files ≡ l.initial.files
