-- A string as it was written: the text that it stands for, and whether an escape was written in it.
use Rattle.std.specs.Prelude.{ℕ, Bool, List}

pub record WrittenString : Type 0 where
  pub text : List ℕ
  pub escaped : Bool
