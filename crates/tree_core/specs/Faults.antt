-- Faults that are counted, and what a sink has gained.
use Rattle.std.specs.Prelude.{◌≡◌, ℕ, ◌+◌, ◌-◌, ◌^◌, min, max, ◌<◌, ◌≤◌, ◌⊎◌, List, ◌++◌, Option, Result, Ok, Err}
use Rattle.std.specs.Prelude.{OnErr}
use Rattle.std.specs.Option.{option_map}
use Rattle.tree_core.specs.declared.tree.TreeError.{TreeError}
use Rattle.tree_core.specs.declared.tree.TreeError.TheVariants.{Absent, WrongKind, Failed, Memory}
use Rattle.tree_core.specs.declared.sink.SinkFailed.{SinkFailed}

-- a count of faults went up, or is at the last number of 64 bits
abbrev pub Rose : ℕ → ℕ → Type 0
Rose before after = (before < after) ⊎ (2 ^ 64 ≤ after + 1)

-- the count never falls, and a refusal comes only where it rose
pub record IsCounted {T : Type 0} (before after : ℕ) (result : Result T SinkFailed) : Type 0 where
  pub later : before ≤ after
  pub rose : OnErr result (Rose before after)

-- what was written, where it is reported, grew by the text
abbrev pub Gained : Option (List ℕ) → Option (List ℕ) → List ℕ → Type 0
Gained old new text = new ≡ option_map (λ held. held ++ text) old

-- what was written grew by a prefix of the text
pub record GainedPrefix (old new : Option (List ℕ)) (text : List ℕ) : Type 0 where
  pub front : List ℕ
  pub rest : List ℕ
  pub parts : text ≡ front ++ rest
  pub gained : Gained old new front

-- one more fault; a count of 64 bits stops at its last number
abbrev pub next_count : ℕ → ℕ
next_count faults = min (faults + 1) (max faults (2 ^ 64 - 1))

-- the count after an answer: one more where it failed
abbrev pub count_after : {T : Type 0} → ℕ → Result T TreeError → ℕ
count_after faults (Ok value) = faults
count_after faults (Err Absent) = faults
count_after faults (Err WrongKind) = faults
count_after faults (Err Failed) = next_count faults
count_after faults (Err Memory) = faults
