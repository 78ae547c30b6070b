-- The places of the specs that match a crate, and an index that finds them by numbers.
use Rattle.std.specs.Prelude.{◌≡◌, ℕ, suc, ◌+◌, ◌*◌, ◌%◌, ◌^◌, ◌==◌, nat_lt, Bool, false, if◌then◌else◌}
use Rattle.std.specs.Prelude.{List, [], ◌∷◌, ◌++◌, map, slice_get, Option, Some, None, unwrap_or}
use Rattle.std.specs.BTreeMap.{BTreeMap, get}
use Rattle.std.specs.Option.{option_map_or}
use Rattle.std.specs.Ordering.{nat_cmp}
use Rattle.deny_text.specs.Hash.{xxh32_of}
use Rattle.graph_core.specs.Krate.{CrateRecord}
use Rattle.semver.specs.Parse.{Held}
use Rattle.semver.specs.declared.Op.{Op}
use Rattle.semver.specs.declared.Op.TheVariants as op
use Rattle.policy_parts.specs.spec.Matching.{spec_matches}
use Rattle.policy_parts.specs.spec.Spec.{Spec}

-- the places of the items that pass, counted from a number on
abbrev pub places_from : {A : Type 0} → ℕ → (A → Bool) → List A → List ℕ
places_from n test [] = []
places_from n test (x ∷ xs) = if test x then n ∷ places_from (suc n) test xs else places_from (suc n) test xs

-- the places of the specs that match a crate, from 0 and rising
abbrev pub matching_places : List Spec → CrateRecord → List ℕ
matching_places specs krate = places_from 0 (λ spec. spec_matches spec krate) specs

abbrev pub first_of : List ℕ → Option ℕ
first_of [] = None
first_of (place ∷ more) = Some place

-- ---- the number that a spec is found by

-- a version's major, minor and patch number
abbrev pub Numbers : Type 0
Numbers = ℕ × ℕ × ℕ

-- the one version, up to its pre-release, that a comparator is for
abbrev pub exact_by : Op → ℕ → Option ℕ → Option ℕ → Option Numbers
exact_by op.Exact major (Some minor) (Some patch) = Some (major, minor, patch)
exact_by op major minor patch = None

abbrev pub exact_in : Held → Option Numbers
exact_in comparator = exact_by comparator.0 comparator.1 comparator.2 comparator.3

-- the one version that a requirement is for, where it is a comparator of one version alone
abbrev pub exact_of : Option (List Held) → Option Numbers
exact_of (Some (comparator ∷ [])) = exact_in comparator
exact_of requirement = None

-- one number of two, modulo 2 ^ 64
unfoldable pub mixed_number : ℕ → ℕ → ℕ
mixed_number number further = (number * 1000003 % 2 ^ 64 + further) % 2 ^ 64

-- the number of a name
abbrev pub name_number : List ℕ → ℕ
name_number name = xxh32_of name

-- the number of a name and one version
abbrev pub version_number : List ℕ → Numbers → ℕ
version_number name version =
    mixed_number (mixed_number (mixed_number (name_number name) version.0) version.1) version.2

abbrev pub number_by : List ℕ → Option Numbers → ℕ
number_by name None = name_number name
number_by name (Some version) = version_number name version

-- that of the name and the version, where a spec is for one version alone, else that of the name
abbrev pub spec_number : Spec → ℕ
spec_number spec = number_by spec.name (exact_of spec.requirement)

abbrev pub spec_numbers : List Spec → List ℕ
spec_numbers specs = map spec_number specs

-- ---- the index

-- the places of a number
abbrev pub places_of : ℕ → List ℕ → List ℕ
places_of number numbers = places_from 0 (λ other. number == other) numbers

-- a map from numbers has the places of each
abbrev pub HasNumberPlaces : BTreeMap ℕ (List ℕ) → List ℕ → Type 0
HasNumberPlaces places numbers = (number : ℕ) → unwrap_or (get nat_cmp places number) [] ≡ places_of number numbers

-- a map has one more place of a number, and else what it had
abbrev pub HasFurther : BTreeMap ℕ (List ℕ) → BTreeMap ℕ (List ℕ) → ℕ → ℕ → Type 0
HasFurther before after number place =
    (other : ℕ)
    → unwrap_or (get nat_cmp after other) []
    ≡ unwrap_or (get nat_cmp before other) [] ++ (if other == number then place ∷ [] else [])

-- a place put into a rising list, whose rest is joined to others
abbrev pub put_before : ℕ → (List ℕ → List ℕ) → List ℕ → List ℕ
put_before place join [] = place ∷ join []
put_before place join (other ∷ others) =
    if nat_lt place other then place ∷ join (other ∷ others)
    else if nat_lt other place then other ∷ put_before place join others
    else place ∷ join others

-- the numbers of two rising lists in order, each once
abbrev pub union : List ℕ → List ℕ → List ℕ
union [] = λ others. others
union (place ∷ places) = put_before place (union places)

-- the places at which a spec may be that matches a crate: those of its name, and those of its name and version
abbrev pub candidates : CrateRecord → List ℕ → List ℕ
candidates krate numbers =
    union (places_of (name_number krate.name) numbers)
    (places_of (version_number krate.name (krate.version.0, krate.version.1, krate.version.2)) numbers)

-- whether the spec at a place matches
abbrev pub matches_at : List Spec → CrateRecord → ℕ → Bool
matches_at specs krate place = option_map_or (λ spec. spec_matches spec krate) (slice_get specs place) false

-- a list by its first item and its rest
abbrev pub list_from : Option (ℕ × List ℕ) → List ℕ
list_from None = []
list_from (Some parts) = parts.0 ∷ parts.1
