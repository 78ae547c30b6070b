-- How a listing is written.
use Rattle.std.specs.Prelude.{◌≡◌, ℕ, ⊤}
use Rattle.tree_core.specs.Faults.{Rose}
pub use Rattle.diag_print.specs.Findings.{LeavesPending}
use Rattle.run_list_text.specs.declared.lines.ListError.{ListError}
use Rattle.run_list_text.specs.declared.lines.ListError.TheVariants.{WriteFault, Memory}

-- a refused write tells the sink's count of faults at the start of the call and the one after that, and it rose between
abbrev pub HasReasonSince : ℕ → ℕ → ListError → Type 0
HasReasonSince begun after (WriteFault first last) = (first ≡ begun) × (last ≡ after) × Rose begun after
HasReasonSince begun after Memory = ⊤
