-- What is so of a result.
use Rattle.std.proofs.Common.{Result, Ok, Err, IfOk}

pub both_of : {T E : Type 0} (result : Result T E) (P Q : T → Type 0) → IfOk result P → IfOk result Q → IfOk result (λ value. P value × Q value)
both_of (Ok value) P Q first second = (first, second)
both_of (Err error) P Q first second = tt
