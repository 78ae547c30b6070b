-- Why findings were not printed.
use Rattle.std.specs.Prelude.{◌≡◌, ℕ}
use Rattle.tree_core.specs.Faults.{Rose}
use Rattle.diag_print.specs.declared.printer.PrintError.{PrintError}
use Rattle.diag_print.specs.declared.printer.PrintError.TheVariants.{WriteFault, Memory}

-- a refused write tells the sink's counts of faults before and after, which rose; want of memory left the count
abbrev pub HasReason : ℕ → ℕ → PrintError → Type 0
HasReason before after (WriteFault first last) = (first ≡ before) × (last ≡ after) × Rose before after
HasReason before after Memory = after ≡ before
