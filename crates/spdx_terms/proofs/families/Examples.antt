-- Lists of families, and where a family is in them, worked out by hand from the rules.
use Rattle.std.proofs.Common.{◌≡◌, List, [], ◌∷◌, refl}
use Rattle.spdx_terms.specs.declared.term.Family.{Family}
use Rattle.spdx_terms.specs.declared.term.Family.TheVariants.{Spdx as of_licenses, Reference as of_references}
use Rattle.spdx_terms.specs.families.Places.{places_in}

-- MIT, GPL-2.0-only and GPL-3.0-or-later
abbrev licenses : List Family
licenses = of_licenses 1 ∷ of_licenses 5 ∷ of_licenses 5 ∷ []

-- a reference, one with a document, MIT, and a reference
abbrev references : List Family
references = of_references ∷ of_references ∷ of_licenses 1 ∷ of_references ∷ []

of_a_version : places_in (of_licenses 5) licenses ≡ 1 ∷ 2 ∷ []
of_a_version = refl

alone : places_in (of_licenses 1) licenses ≡ 0 ∷ []
alone = refl

not_there : (places_in of_references licenses ≡ []) × (places_in (of_licenses 3) licenses ≡ [])
not_there = (refl, refl)

-- with and without a document, one family
one_family : places_in of_references references ≡ 0 ∷ 1 ∷ 3 ∷ []
one_family = refl

beside_references : places_in (of_licenses 1) references ≡ 2 ∷ []
beside_references = refl

in_none : (places_in (of_licenses 1) [] ≡ []) × (places_in of_references [] ≡ [])
in_none = (refl, refl)
