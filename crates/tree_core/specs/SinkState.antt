-- A sink in memory.
use Rattle.std.specs.Prelude.{ℕ, List, ◌-◌, length, min}

-- what it holds, how much it may hold, how much it takes in one call, and how often it refused
pub record SinkState : Type 0 where
  pub held : List ℕ
  pub room : ℕ
  pub piece : ℕ
  pub faults : ℕ

-- how many bytes of a piece of this length it takes
abbrev pub taken_of : SinkState → ℕ → ℕ
taken_of state len = min len (min state.piece (state.room - length state.held))
