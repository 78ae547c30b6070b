-- The counts of refusals.
use Rattle.std.proofs.Common.{ℕ}
use Rattle.tree_core.specs.texts.Cause.{ReadCounts}
use Rattle.diag_print.specs.declared.printer.PrintError.{PrintError}
use Rattle.diag_print.specs.declared.printer.PrintError.TheVariants as print
use Rattle.run_found.specs.Error.{cause_of, error_of_print}

-- what was not printed comes of no read
pub print_counts : (begun before after : ℕ) (refused : PrintError) → ReadCounts begun before after (cause_of (error_of_print refused))
print_counts begun before after print.Memory = tt
print_counts begun before after (print.WriteFault first last) = tt
