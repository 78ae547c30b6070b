-- The order in which specs are found: by name, those of one name without a version first, and then by version.
use Rattle.std.specs.Prelude.{◌≡◌, ℕ, Bool, List, [], ◌∷◌, Option, None, Some}
use Rattle.std.specs.List.{list_any}
use Rattle.std.specs.List.Sorted.{IsSortedBy}
use Rattle.std.specs.Ordering.{nat_cmp, is_lt}
use Rattle.std.specs.Cmp.Lexicographic.{slice_cmp}
use Rattle.std.specs.declared.cmp.Ordering.{Ordering}
use Rattle.graph_core.specs.Krate.{Version}
use Rattle.graph_core.specs.declared.selection.exclude.ExcludeSpec.{ExcludeSpec}
use Rattle.graph_core.specs.selection.Choice.{ExcludeSpecView, exclude_spec_of}
use Rattle.std.specs.Borrow.{Bor}

-- what tells versions apart: three numbers and two texts; nothing where there is no version
abbrev pub version_key : Option Version → List (List ℕ)
version_key None = []
version_key (Some version) = (version.0 ∷ []) ∷ (version.1 ∷ []) ∷ (version.2 ∷ []) ∷ version.3 ∷ version.4 ∷ []

-- what tells specs apart
abbrev pub key_with : List ℕ → Option Version → List (List ℕ)
key_with name version = name ∷ version_key version

abbrev pub key_of : ExcludeSpecView → List (List ℕ)
key_of spec = key_with spec.name spec.version

abbrev pub key_order : List (List ℕ) → List (List ℕ) → Ordering
key_order = slice_cmp (slice_cmp nat_cmp)

-- the key of what a reference leads to
abbrev pub key_behind : Bor ExcludeSpec → List (List ℕ)
key_behind spec = key_of (exclude_spec_of spec.now)

abbrev pub AreSorted : List (Bor ExcludeSpec) → Type 0
AreSorted refs = IsSortedBy (λ a b. is_lt (key_order (key_behind a) (key_behind b))) refs

-- references to these specs, in order
pub record AreInSearchOrder (specs : List ExcludeSpec) (refs : List (Bor ExcludeSpec)) : Type 0 where
  pub same : (test : ExcludeSpec → Bool) → list_any (λ spec. test spec.now) refs ≡ list_any test specs
  pub sorted : AreSorted refs
