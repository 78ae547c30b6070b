use Rattle.std.proofs.Common.{◌≡◌, ◌++◌, All, string_bytes}
use Rattle.std.specs.Slice.Iter.{iter_rest}
use Rattle.diag_print.specs.Places.{LabelsAreInside}
use Rattle.diag_print.specs.Printed.{AllBelow, all_printed_at}
use Rattle.diag_print.proofs.printer.DiagPrinter.push_pack_text.Given as goal

-- what was written, and the lines of the findings that are left, are the whole
abbrev pub invariant-findings : goal.invariant-findings
invariant-findings l =
    (goal.iterator-findings).can_next l.finding-iterator
    × (goal.iterator-findings).is_finite l.finding-iterator
    × (string_bytes l.out ++ all_printed_at l.self l.files (iter_rest l.finding-iterator) ≡ string_bytes l.initial.out ++ all_printed_at l.self l.files l.pack.findings)
    × All (λ finding. LabelsAreInside l.files finding.diag) (iter_rest l.finding-iterator)
    × (AllBelow l.self.log_level l.pack.findings → AllBelow l.self.log_level (iter_rest l.finding-iterator))
