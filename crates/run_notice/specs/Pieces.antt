-- How a notice is written, text by text. Only the contracts of private calls cite it.
use Rattle.std.specs.Prelude.{◌≡◌, ◌⊎◌, List, ℕ, ◌++◌, Result, Ok, Err}
use Rattle.tree_core.specs.Faults.{Gained, GainedPrefix}
use Rattle.run_found.specs.declared.error.Error.{Error}
use Rattle.run_found.specs.declared.error.Error.TheVariants.{Memory}
use Rattle.run_found.specs.Written.{IsSilent, SinkSeen}
use Rattle.run_command.specs.Written.{IsWriteFault}
use Rattle.run_notice.specs.declared.writing.TextPiece.{TextPiece}

-- a text behind what is before it
abbrev pub piece_text : TextPiece → List ℕ
piece_text piece = piece.head ++ piece.text.now

-- it was written, or a prefix of it, behind which a write was refused; or memory was wanting before
abbrev pub WritesNotice : List ℕ → SinkSeen → Result (Unit {0}) Error → Type 0
WritesNotice text out (Ok done) = Gained out.old out.new text
WritesNotice text out (Err error) =
    ((error ≡ Memory) × IsSilent out)
    ⊎ (IsWriteFault out.before out.after error × GainedPrefix out.old out.new text)
