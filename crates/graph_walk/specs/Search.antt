-- What the steps of the search give. A walk is here the places of its crates, from its end back to its root.
use Rattle.std.specs.Prelude.{◌≡◌, ℕ, suc, ◌<◌, ◌&&◌, not, Bool, true, false}
use Rattle.std.specs.Prelude.{cond, List, [], ◌∷◌, ◌++◌, map, fold, length, replicate}
use Rattle.std.specs.Prelude.{slice_index_or, slice_set, Option, Some, None, is_some, IfSome, All, option_map, reverse}
use Rattle.std.specs.List.Sorted.{IsPermutation, IsSorted}
use Rattle.std.specs.Ordering.{nat_cmp}
use Rattle.graph_core.specs.declared.edge.Edge.{Edge}
use Rattle.graph_core.specs.declared.edge.Kinds.{Kinds}
use Rattle.graph_core.specs.Metadata.{Graph, LeadWithin, edges_at, link_in}
use Rattle.graph_core.specs.declared.selection.standing.Standing.{Standing}
use Rattle.graph_core.specs.selection.Places.{counting_at, passes, standing_at, is_root_standing}
use Rattle.graph_walk.specs.declared.search.Found.{Found}

-- The walks that were found, in the order in which they were, and of each crate the one that was found to it.
pub record SearchView : Type 0 where
  pub order : List (List ℕ)
  pub best : List (Option (List ℕ))

abbrev pub best_at : List (Option (List ℕ)) → ℕ → Option (List ℕ)
best_at best place = slice_index_or best place None

-- ---- the walks of what was found

-- the walk that leads to a crate: to one of those found before, or to none, where the crate is a root
abbrev pub walk_behind : List (List ℕ) → Option ℕ → List ℕ
walk_behind order None = []
walk_behind order (Some by) = slice_index_or order by []

abbrev pub walk_of : List (List ℕ) → Found → List ℕ
walk_of order found = found.place ∷ walk_behind order found.by

abbrev pub with_found : List (List ℕ) → Found → List (List ℕ)
with_found order found = order ++ walk_of order found ∷ []

abbrev pub order_of : List Found → List (List ℕ)
order_of found = fold with_found [] found

-- the walk to one of those found, if to one
abbrev pub found_walk : List (List ℕ) → Option ℕ → Option (List ℕ)
found_walk order at = option_map (λ found. slice_index_or order found []) at

abbrev pub best_of : List (List ℕ) → List (Option ℕ) → List (Option (List ℕ))
best_of order index = map (found_walk order) index

abbrev pub search_of : List Found → List (Option ℕ) → SearchView
search_of found index = record { order = order_of found; best = best_of (order_of found) index }

-- what leads to each was found before it, and the index leads to what was found
pub record AreFound (found : List Found) (index : List (Option ℕ)) : Type 0 where
  pub earlier : (at : ℕ) (other : Found) → at < length found
      → IfSome (slice_index_or found at other).by (λ by. by < at)
  pub within : All (λ at. IfSome at (λ found_at. found_at < length found)) index

-- ---- its steps

abbrev pub nothing_found : ℕ → SearchView
nothing_found count = record { order = []; best = replicate count None }

-- a crate is found behind a walk, where none was found to it before
abbrev pub put_if : Option (List ℕ) → ℕ → List ℕ → SearchView → SearchView
put_if (Some walk) place behind seen = seen
put_if None place behind seen = record {
  order = seen.order ++ (place ∷ behind) ∷ [];
  best = slice_set seen.best place (Some (place ∷ behind));
}

abbrev pub put : ℕ → List ℕ → SearchView → SearchView
put place behind seen = put_if (best_at seen.best place) place behind seen

abbrev pub put_all : List ℕ → List ℕ → SearchView → SearchView
put_all behind [] seen = seen
put_all behind (place ∷ places) seen = put_all behind places (put place behind seen)

abbrev pub places_with : List ℕ → ℕ → Bool → List ℕ
places_with places place true = places ++ place ∷ []
places_with places place false = places

-- the roots among standings, of which the first has this place
abbrev pub roots_from : ℕ → List Standing → List ℕ
roots_from place [] = []
roots_from place (standing ∷ standings) =
    cond (is_root_standing standing) (place ∷ roots_from (suc place) standings) (roots_from (suc place) standings)

-- whether an edge may be taken, and leads to what was not found yet
abbrev pub is_new_end : SearchView → List Standing → Kinds → Edge → Bool
is_new_end seen standings counting edge =
    passes standings counting edge && not (is_some (best_at seen.best edge.to))

abbrev pub new_ends : SearchView → List Standing → Kinds → List Edge → List ℕ
new_ends seen standings counting [] = []
new_ends seen standings counting (edge ∷ edges) =
    cond (is_new_end seen standings counting edge) (edge.to ∷ new_ends seen standings counting edges)
    (new_ends seen standings counting edges)

-- the same places, in order
pub record AreInOrder (places ordered : List ℕ) : Type 0 where
  pub same : IsPermutation places ordered
  pub sorted : IsSorted nat_cmp ordered

-- where a walk ends
abbrev pub end_of : List ℕ → ℕ
end_of [] = 0
end_of (place ∷ behind) = place

-- The edges out of the end of a walk are followed: what they lead to and was not found yet is found, in the order of
-- places.
pub record IsFollowed (graph : Graph) (exclude_dev : Bool) (standings : List Standing) (kinds : Kinds) (walk : List ℕ)
    (seen after : SearchView) : Type 0 where
  pub edges : List Edge
  pub told : map (link_in graph) edges ≡ edges_at graph (end_of walk)
  pub lead_within : LeadWithin (length graph.nodes) edges
  pub ends : List ℕ
  pub in_order : AreInOrder (new_ends seen standings
      (counting_at exclude_dev kinds (standing_at standings (end_of walk))) edges) ends
  pub puts : after ≡ put_all walk ends seen

-- ---- the answer

abbrev pub from_roots : List (Option (List ℕ)) → List (Option (List ℕ))
from_roots best = map (option_map reverse) best
