-- Lists that grow at their end.
use Rattle.std.specs.Prelude.{◌≡◌, List, ◌++◌}

-- what was there in a list stays, in front of what was added
abbrev pub StandsInFront : {X : Type 0} → List X → List X → Type 0
StandsInFront {X} old new = (more : List X) × (new ≡ old ++ more)
