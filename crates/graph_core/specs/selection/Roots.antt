-- The crates at which walks begin.
use Rattle.std.specs.Prelude.{◌≡◌, ℕ, ◌+◌, ◌&&◌, not, Bool, true, false, List, [], ◌∷◌, map, bytes_eq, count_by}
use Rattle.std.specs.Prelude.{Contains, IsTrue, Option, Some, None}
use Rattle.graph_core.specs.Krate.{CrateRecord, has_text}
use Rattle.graph_core.specs.Metadata.{Graph}
use Rattle.graph_core.specs.declared.selection.selection.BuildError.{BuildError}
use Rattle.graph_core.specs.declared.selection.selection.BuildError.TheVariants.{NoRoots, Memory}
use Rattle.graph_core.specs.selection.Choice.{Choice, is_excluded}

abbrev pub crates_of : Graph → List CrateRecord
crates_of graph = map (λ node. node.krate) graph.nodes

abbrev pub is_member : Graph → List ℕ → Bool
is_member graph id = has_text graph.members id

-- The base roots are all members with `workspace` or without a root crate, else the root crate, which need not be a
-- member.
abbrev pub is_base_of : Graph → Bool → Option (List ℕ) → List ℕ → Bool
is_base_of graph true root id = is_member graph id
is_base_of graph false None id = is_member graph id
is_base_of graph false (Some root) id = bytes_eq root id

abbrev pub is_base : Graph → Choice → CrateRecord → Bool
is_base graph choice krate = is_base_of graph choice.workspace graph.root krate.id

-- a publish list that is there and empty
abbrev pub is_published_nowhere : Option (List (List ℕ)) → Bool
is_published_nowhere None = false
is_published_nowhere (Some []) = true
is_published_nowhere (Some (name ∷ names)) = false

abbrev pub is_unpublished : Graph → Choice → CrateRecord → Bool
is_unpublished graph choice krate =
    choice.exclude_unpublished && (is_member graph krate.id && is_published_nowhere krate.publish)

-- of the base roots, those that a spec excludes, and those of the others that are left out as unpublished
abbrev pub is_excluded_base : Graph → Choice → CrateRecord → Bool
is_excluded_base graph choice krate = is_base graph choice krate && is_excluded choice.exclude krate

abbrev pub is_unpublished_base : Graph → Choice → CrateRecord → Bool
is_unpublished_base graph choice krate =
    is_base graph choice krate && (not (is_excluded choice.exclude krate) && is_unpublished graph choice krate)

abbrev pub is_root : Graph → Choice → CrateRecord → Bool
is_root graph choice krate =
    is_base graph choice krate && (not (is_excluded choice.exclude krate) && not (is_unpublished graph choice krate))

-- ---- of ids

-- a crate of the graph has the id, and passes the test
pub record IsCrateWith (graph : Graph) (test : CrateRecord → Bool) (id : List ℕ) : Type 0 where
  pub krate : CrateRecord
  pub stands : Contains (crates_of graph) krate
  pub named : krate.id ≡ id
  pub passes : IsTrue (test krate)

abbrev pub IsRoot : Graph → Choice → List ℕ → Type 0
IsRoot graph choice id = IsCrateWith graph (is_root graph choice) id

abbrev pub IsExcluded : Graph → Choice → List ℕ → Type 0
IsExcluded graph choice id = IsCrateWith graph (is_excluded choice.exclude) id

abbrev pub HasRoot : Graph → Choice → Type 0
HasRoot graph choice = (id : List ℕ) × IsRoot graph choice id

-- ---- why nothing is selected

-- There is no root: as many base roots as those that specs exclude and those of the others that are left out as
-- unpublished. A crate counts once, also where it is listed twice as a member.
pub record LacksRoots (graph : Graph) (choice : Choice) (base excluded unpublished : ℕ) : Type 0 where
  pub none : HasRoot graph choice → ⊥
  pub sum : base ≡ excluded + unpublished
  pub base_roots : base ≡ count_by (is_base graph choice) (crates_of graph)
  pub excluded_roots : excluded ≡ count_by (is_excluded_base graph choice) (crates_of graph)
  pub unpublished_roots : unpublished ≡ count_by (is_unpublished_base graph choice) (crates_of graph)

-- a refusal but want of memory has its cause
abbrev pub IsRootsCause : Graph → Choice → BuildError → Type 0
IsRootsCause graph choice Memory = Unit {0}
IsRootsCause graph choice (NoRoots base excluded unpublished) = LacksRoots graph choice base excluded unpublished
