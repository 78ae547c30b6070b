-- Steps, of which each may refuse.
use Rattle.std.specs.Prelude.{Option, Some, None, Result, Ok, Err}
use Rattle.run_found.specs.declared.error.Error.{Error}

-- the next step, where the one before was not refused
infixl 10 ◌>>=◌
abbrev pub ◌>>=◌ : {X Y : Type 0} → Result X Error → (X → Result Y Error) → Result Y Error
Ok value >>= next = next value
Err error >>= next = Err error

-- the value of what was not refused
abbrev pub unless_refused : {X : Type 0} → Result X Error → Option X
unless_refused (Ok value) = Some value
unless_refused (Err error) = None
