-- The first item of a list, and the others.
use Rattle.std.specs.Prelude.{List, [], ◌∷◌}

abbrev pub first_of : {X : Type 0} → X → List X → X
first_of none [] = none
first_of none (x ∷ xs) = x

abbrev pub behind_first : {X : Type 0} → List X → List X
behind_first [] = []
behind_first (x ∷ xs) = xs
