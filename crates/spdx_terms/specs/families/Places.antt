-- Where a licence family is in a list of families.
use Rattle.std.specs.Prelude.{ℕ, suc, Bool, true, false, ◌==◌, if◌then◌else◌, List, [], ◌∷◌}
use Rattle.spdx_terms.specs.declared.term.Family.{Family}
use Rattle.spdx_terms.specs.declared.term.Family.TheVariants.{Spdx as of_licenses, Reference as of_references}

-- two families are the same: of licences by their numbers; references are one family
abbrev pub same_family : Family → Family → Bool
same_family (of_licenses one) (of_licenses other) = one == other
same_family (of_licenses one) of_references = false
same_family of_references (of_licenses other) = false
same_family of_references of_references = true

-- the places at which a family is, counted from a number on
abbrev pub places_from : ℕ → Family → List Family → List ℕ
places_from n family [] = []
places_from n family (here ∷ more) =
    if same_family family here then n ∷ places_from (suc n) family more else places_from (suc n) family more

-- the places at which a family is, from 0 and rising
abbrev pub places_in : Family → List Family → List ℕ
places_in family families = places_from 0 family families
