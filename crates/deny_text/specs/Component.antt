-- A part of a path as its text.
use Rattle.std.specs.Prelude.{◌≡◌, ℕ, List, [], ◌∷◌, codes, Option, Some, MatchOption}
use Rattle.deny_text.specs.Path.{name_part}
use Rattle.deny_text.specs.declared.path.Component.{Component}
use Rattle.deny_text.specs.declared.path.Component.TheVariants.{Root, Cur, Parent, Name}

abbrev pub component_text : Component → List ℕ
component_text Root = codes "/"
component_text Cur = codes "."
component_text Parent = codes ".."
component_text (Name name) = name.now

-- what the part's text is called: a name is neither the root nor `.` nor `..`
abbrev pub IsRightlyCalled : Component → Type 0
IsRightlyCalled Root = Unit {0}
IsRightlyCalled Cur = Unit {0}
IsRightlyCalled Parent = Unit {0}
IsRightlyCalled (Name name) = name_part name.now ≡ Some name.now

-- the first of the parts, as what its text is called, and the parts after it
abbrev pub YieldsPart : List (List ℕ) → Option Component → List (List ℕ) → Type 0
YieldsPart parts first rest =
    MatchOption first ((parts ≡ []) × (rest ≡ [])) (λ part. (parts ≡ component_text part ∷ rest) × IsRightlyCalled part)
