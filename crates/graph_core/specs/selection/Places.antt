-- What the code's own steps give, by the places of crates: marks, and places to go on from.
use Rattle.std.specs.Prelude.{◌≡◌, ℕ, suc, ◌<◌, ◌&&◌, ◌||◌, not, Bool, true, false, cond, List, [], ◌∷◌, ◌++◌, map}
use Rattle.std.specs.Prelude.{fold, length, replicate, slice_set, slice_index_or, count_by, Option, Some, None, Result}
use Rattle.std.specs.Prelude.{Ok, Err, if◌then◌else◌}
use Rattle.std.specs.List.{list_any}
use Rattle.graph_core.specs.declared.edge.DepKind.{DepKind}
use Rattle.graph_core.specs.declared.edge.DepKind.TheVariants.{Normal, Dev, Build}
use Rattle.graph_core.specs.declared.edge.Edge.{Edge}
use Rattle.graph_core.specs.declared.edge.Kinds.{Kinds}
use Rattle.graph_core.specs.Krate.{CrateRecord}
use Rattle.graph_core.specs.Metadata.{Graph, id_of_node, no_kinds}
use Rattle.graph_core.specs.declared.selection.selection.BuildError.{BuildError}
use Rattle.graph_core.specs.declared.selection.selection.BuildError.TheVariants.{NoRoots}
use Rattle.graph_core.specs.declared.selection.selection.Include.{Include}
use Rattle.graph_core.specs.declared.selection.standing.Standing.{Standing}
use Rattle.graph_core.specs.declared.selection.marks.Frontier.{Frontier}
use Rattle.graph_core.specs.selection.Choice.{Choice, is_excluded}
use Rattle.graph_core.specs.selection.Roots.{crates_of, is_member, is_base, is_unpublished, is_published_nowhere}
use Rattle.graph_core.specs.selection.Walks.{Reached}

-- ---- marks

abbrev pub is_marked : List Bool → ℕ → Bool
is_marked marks place = slice_index_or marks place false

abbrev pub marked_at : List Bool → ℕ → List Bool
marked_at marks place = slice_set marks place true

-- among so many, those at the places of a list
abbrev pub marks_at : ℕ → List ℕ → List Bool
marks_at count places = fold marked_at (replicate count false) places

-- the items that are marked
abbrev pub marked_items : {T : Type 0} → List T → List Bool → List T
marked_items [] marks = []
marked_items (item ∷ items) [] = []
marked_items (item ∷ items) (mark ∷ marks) = cond mark (item ∷ marked_items items marks) (marked_items items marks)

-- marks of the crates that have a property
pub record AreMarksOf (graph : Graph) (Has : List ℕ → Type 0) (marks : List Bool) : Type 0 where
  pub counted : length marks ≡ length graph.nodes
  pub sound : (place : ℕ) → is_marked marks place ≡ true → Has (id_of_node graph place)
  pub whole : (id : List ℕ) → Has id
      → (place : ℕ) × (place < length graph.nodes) × (is_marked marks place ≡ true) × (id_of_node graph place ≡ id)

-- ---- what is said of a crate before any walk

abbrev pub standing_of : Graph → Choice → CrateRecord → Standing
standing_of graph choice krate = record {
  member = is_member graph krate.id;
  base = is_base graph choice krate;
  excluded = is_excluded choice.exclude krate;
  unpublished = is_unpublished graph choice krate;
}

-- of a crate of which it is known whether it is a member and whether it would be a root
abbrev pub standing_with : Choice → CrateRecord → Bool → Bool → Standing
standing_with choice krate member base = record {
  member = member;
  base = base;
  excluded = is_excluded choice.exclude krate;
  unpublished = choice.exclude_unpublished && (member && is_published_nowhere krate.publish);
}

abbrev pub standings_in : Graph → Choice → List Standing
standings_in graph choice = map (standing_of graph choice) (crates_of graph)

abbrev pub is_root_standing : Standing → Bool
is_root_standing standing = standing.base && (not standing.excluded && not standing.unpublished)

abbrev pub is_excluded_standing : Standing → Bool
is_excluded_standing standing = standing.base && standing.excluded

abbrev pub is_unpublished_standing : Standing → Bool
is_unpublished_standing standing = standing.base && (not standing.excluded && standing.unpublished)

abbrev pub root_needed : List Standing → Result (Unit {0}) BuildError
root_needed standings =
    if list_any is_root_standing standings then Ok tt
    else Err (NoRoots (count_by (λ standing. standing.base) standings) (count_by is_excluded_standing standings)
    (count_by is_unpublished_standing standings))

abbrev pub no_standing : Standing
no_standing = record { member = false; base = false; excluded = false; unpublished = false }

abbrev pub standing_at : List Standing → ℕ → Standing
standing_at standings place = slice_index_or standings place no_standing

-- ---- kinds that count

abbrev pub other_kinds : Option DepKind → Kinds
other_kinds None = record { normal = true; dev = true; build = true }
other_kinds (Some Normal) = record { normal = false; dev = true; build = true }
other_kinds (Some Dev) = record { normal = true; dev = false; build = true }
other_kinds (Some Build) = record { normal = true; dev = true; build = false }

-- those of the edges out of a crate: dev counts only at members, and where it is not excluded
abbrev pub counting_at : Bool → Kinds → Standing → Kinds
counting_at exclude_dev kinds standing =
    record { normal = kinds.normal; dev = kinds.dev && (standing.member && not exclude_dev); build = kinds.build }

-- whether two sets have a kind in common
abbrev pub meet : Kinds → Kinds → Bool
meet a b = (a.normal && b.normal) || ((a.dev && b.dev) || (a.build && b.build))

-- whether a walk may take an edge, where these kinds count
abbrev pub passes : List Standing → Kinds → Edge → Bool
passes standings counting edge = meet edge.kinds counting && not (standing_at standings edge.to).excluded

-- ---- places that were found

-- marks of those that were found, and those of them to go on from
pub record FrontierView : Type 0 where
  pub marks : List Bool
  pub waiting : List ℕ

abbrev pub frontier_of : Frontier → FrontierView
frontier_of found = record { marks = found.marks.items; waiting = found.waiting.items }

abbrev pub nothing_seen : ℕ → FrontierView
nothing_seen count = record { marks = replicate count false; waiting = [] }

-- a place is found, where it is wanted and was not found before
abbrev pub put_if : Bool → ℕ → FrontierView → FrontierView
put_if true place seen = record { marks = marked_at seen.marks place; waiting = seen.waiting ++ place ∷ [] }
put_if false place seen = seen

abbrev pub frontier_with : ℕ → Bool → FrontierView → FrontierView
frontier_with place wanted seen = put_if (wanted && not (is_marked seen.marks place)) place seen

abbrev pub follow : List Standing → Kinds → FrontierView → List Edge → FrontierView
follow standings counting seen [] = seen
follow standings counting seen (edge ∷ edges) =
    follow standings counting (frontier_with edge.to (passes standings counting edge) seen) edges

-- the roots among the standings, of which the first has this place
abbrev pub put_roots : ℕ → List Standing → FrontierView → FrontierView
put_roots place [] seen = seen
put_roots place (standing ∷ standings) seen =
    put_roots (suc place) standings (frontier_with place (is_root_standing standing) seen)

-- ---- what is kept of the crates that are reached

abbrev pub items_with : {T : Type 0} → List T → T → Bool → List T
items_with items item true = items ++ item ∷ []
items_with items item false = items

-- the kinds without which the crate at a place is reached, by marks for each kind
abbrev pub kinds_at : List Bool → List Bool → List Bool → ℕ → Kinds
kinds_at normal dev build place =
    record { normal = is_marked normal place; dev = is_marked dev place; build = is_marked build place }

-- those of the places that are marked, of which the first is this one
abbrev pub kinds_kept : List Bool → List Bool → List Bool → ℕ → List Bool → List Kinds
kinds_kept normal dev build place [] = []
kinds_kept normal dev build place (mark ∷ marks) =
    cond mark (kinds_at normal dev build place ∷ kinds_kept normal dev build (suc place) marks)
    (kinds_kept normal dev build (suc place) marks)

abbrev pub without_at : List Kinds → ℕ → Kinds
without_at without place = slice_index_or without place no_kinds

-- marks of the crates that are reached without each kind
pub record AreWithout (graph : Graph) (choice : Choice) (normal dev build : List Bool) : Type 0 where
  pub normal_marks : AreMarksOf graph (Reached graph choice (Some Normal)) normal
  pub dev_marks : AreMarksOf graph (Reached graph choice (Some Dev)) dev
  pub build_marks : AreMarksOf graph (Reached graph choice (Some Build)) build

-- whether a crate is reached without each of the needed kinds
abbrev pub covers : Kinds → Kinds → Bool
covers needed without =
    (not needed.normal || without.normal) && ((not needed.dev || without.dev) && (not needed.build || without.build))

abbrev pub only_kind : DepKind → Kinds
only_kind Normal = record { normal = true; dev = false; build = false }
only_kind Dev = record { normal = false; dev = true; build = false }
only_kind Build = record { normal = false; dev = false; build = true }

abbrev pub left_out : Include → Kinds
left_out include = record { normal = false; dev = not include.dev; build = not include.build }
