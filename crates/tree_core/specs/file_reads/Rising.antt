-- Failed reads, and the tree's counts of faults.
use Rattle.std.specs.Prelude.{ℕ, ◌≤◌, List, [], ◌∷◌, ◌++◌}
use Rattle.tree_core.specs.Faults.{Rose}
use Rattle.tree_core.specs.declared.reads.ReadAnswer.{ReadAnswer}
use Rattle.tree_core.specs.declared.reads.ReadAnswer.TheVariants.{Got, Absent, WrongKind, NotUtf8, Failed}
use Rattle.tree_core.specs.declared.reads.ReadRecord.{ReadRecord}

-- the count rose in a read, from the first number to the second
pub record RoseBy (before after : ℕ) : Type 0 where
  pub later : before ≤ after
  pub rose : Rose before after

-- What a record asks of the count: a failed read began at it or later, the count rose in it, and what follows begins at
-- the count that it left. Any other read says nothing of the count.
abbrev pub RiseFrom : ℕ → ReadAnswer → (ℕ → Type 0) → Type 0
RiseFrom low Got Rest = Rest low
RiseFrom low Absent Rest = Rest low
RiseFrom low WrongKind Rest = Rest low
RiseFrom low NotUtf8 Rest = Rest low
RiseFrom low (Failed before after) Rest = (low ≤ before) × RoseBy before after × Rest after

-- the failed ones among the reads rise one after the other, all of them between the two numbers
abbrev pub RiseInOrder : ℕ → List ReadRecord → ℕ → Type 0
RiseInOrder low [] high = low ≤ high
RiseInOrder low (read ∷ reads) high = RiseFrom low read.answer (λ from. RiseInOrder from reads high)

-- reads that rise up to a number, and then reads that rise from it, rise together
abbrev pub RisesCompose : Type 0
RisesCompose =
    (low middle high : ℕ) (reads more : List ReadRecord) → RiseInOrder low reads middle → RiseInOrder middle more high
    → RiseInOrder low (reads ++ more) high

-- reads rise as well from an earlier number, and up to a later one
abbrev pub RisesWiden : Type 0
RisesWiden =
    (lower low high higher : ℕ) (reads : List ReadRecord) → lower ≤ low → RiseInOrder low reads high → high ≤ higher
    → RiseInOrder lower reads higher
