-- The top of a stack.
use Rattle.std.specs.Prelude.{◌≡◌, List, [], ◌∷◌, Option, Some, None}

abbrev pub top_of : {X : Type 0} → List X → Option X
top_of [] = None
top_of (x ∷ xs) = Some x

-- the item on top is taken off; there is none where the stack is empty
abbrev pub Pops : {X : Type 0} → List X → Option X → List X → Type 0
Pops old None new = (old ≡ []) × (new ≡ [])
Pops old (Some x) new = old ≡ x ∷ new
