-- What is written to two sinks, in what order, and what a refused write leaves of it.
use Rattle.std.specs.Prelude.{◌≡◌, ℕ, ◌≤◌, ◌⊎◌, Bool, true, false, List, [], ◌∷◌, ◌++◌, Option, if◌then◌else◌}
use Rattle.std.specs.List.{flat_map}
use Rattle.tree_core.specs.Faults.{Rose, Gained, GainedPrefix}

pub data OutputSink : Type 0 where
  to_out : OutputSink
  to_err : OutputSink

-- texts in the order in which they are written, each to its sink
abbrev pub Script : Type 0
Script = List (OutputSink × List ℕ)

abbrev pub is_target : OutputSink → OutputSink → Bool
is_target to_out to_out = true
is_target to_err to_err = true
is_target _ _ = false

-- all that a script writes to a sink
abbrev pub text_for : OutputSink → Script → List ℕ
text_for target script = flat_map (λ piece. if is_target target piece.0 then piece.1 else []) script

-- what was written to the two sinks, where they tell it
pub record SinkTexts : Type 0 where
  pub out : Option (List ℕ)
  pub err : Option (List ℕ)

-- each sink gained what the script writes to it
pub record Gains (old new : SinkTexts) (script : Script) : Type 0 where
  pub out : Gained old.out new.out (text_for to_out script)
  pub err : Gained old.err new.err (text_for to_err script)

-- the counts of faults of a tree and of two sinks, before a call and after it
pub record FaultCounts : Type 0 where
  pub tree_before : ℕ
  pub tree_after : ℕ
  pub out_before : ℕ
  pub out_after : ℕ
  pub err_before : ℕ
  pub err_after : ℕ

-- A sink refused a write: its count rose from the first number to the second. To `err` a line may still be written
-- after that.
abbrev pub RefusedBy : FaultCounts → OutputSink → ℕ → ℕ → Type 0
RefusedBy counts to_out before after =
    (before ≡ counts.out_before) × (after ≡ counts.out_after) × Rose counts.out_before counts.out_after
RefusedBy counts to_err before after = (before ≡ counts.err_before) × (after ≤ counts.err_after) × Rose before after

-- a write of a script was refused: the earlier pieces were written, a prefix of this one, and none of the later
pub record IsCut (counts : FaultCounts) (before after : ℕ) (whole begun : Script) : Type 0 where
  pub earlier : Script
  pub target : OutputSink
  pub front : List ℕ
  pub rest : List ℕ
  pub later : Script
  pub parts : whole ≡ earlier ++ (target, front ++ rest) ∷ later
  pub written : begun ≡ earlier ++ (target, front) ∷ []
  pub refused : RefusedBy counts target before after

-- a line was written, or a prefix of it where the sink's count rose
abbrev pub LineWritten : Option (List ℕ) → Option (List ℕ) → ℕ → ℕ → List ℕ → Type 0
LineWritten old new before after line = Gained old new line ⊎ (Rose before after × GainedPrefix old new line)
