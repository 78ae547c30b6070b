-- Computed examples: each row holds as it is there.
use Rattle.std.proofs.Common.{◌≡◌, ◌∷◌, [], codes, true, false, Some, None, refl, Less, Equal, Greater}
use Rattle.graph_core.specs.declared.edge.DepKind.TheVariants.{Dev, Build}
use Rattle.graph_core.specs.Metadata.{no_kinds}
use Rattle.graph_walk.specs.Shortest.{before_end, kind_left_out, visited, walk_order}
use Rattle.graph_walk.specs.Search.{nothing_found, order_of, put_all}

-- ---- what a walk visits

root_alone : visited (codes "a") [] ≡ codes "a" ∷ []
root_alone = refl

two_edges : visited (codes "a") (record { from = codes "a"; to = codes "b"; kinds = no_kinds }
    ∷ record { from = codes "b"; to = codes "c"; kinds = no_kinds } ∷ []) ≡ codes "a" ∷ codes "b" ∷ codes "c" ∷ []
two_edges = refl

-- ---- the order of walks that are as long

from_the_root_on : walk_order (codes "a" ∷ codes "c" ∷ codes "d" ∷ []) (codes "b" ∷ codes "a" ∷ codes "d" ∷ []) ≡ Less
from_the_root_on = refl

then_the_next : walk_order (codes "a" ∷ codes "c" ∷ codes "d" ∷ []) (codes "a" ∷ codes "b" ∷ codes "d" ∷ []) ≡ Greater
then_the_next = refl

by_bytes_of_ids : walk_order (codes "a" ∷ codes "b 10" ∷ []) (codes "a" ∷ codes "b 9" ∷ []) ≡ Less
by_bytes_of_ids = refl

itself : walk_order (codes "a" ∷ codes "b" ∷ []) (codes "a" ∷ codes "b" ∷ []) ≡ Equal
itself = refl

-- ---- before the end

needed_by_two : before_end (codes "a" ∷ codes "b" ∷ codes "c" ∷ []) ≡ codes "a" ∷ codes "b" ∷ []
needed_by_two = refl

a_root : before_end (codes "a" ∷ []) ≡ []
a_root = refl

-- ---- the kind that is left out

all_included : kind_left_out (record { dev = true; build = true }) ≡ None
all_included = refl

no_dev : kind_left_out (record { dev = false; build = true }) ≡ Some Dev
no_dev = refl

no_build : kind_left_out (record { dev = true; build = false }) ≡ Some Build
no_build = refl

neither : kind_left_out (record { dev = false; build = false }) ≡ Some Dev
neither = refl

-- ---- the search

walks_of_three : order_of (record { place = 0; by = None } ∷ record { place = 2; by = Some 0 } ∷ record { place = 1; by = Some 1 } ∷ [])
    ≡ (0 ∷ []) ∷ (2 ∷ 0 ∷ []) ∷ (1 ∷ 2 ∷ 0 ∷ []) ∷ []
walks_of_three = refl

found_once : put_all (0 ∷ []) (1 ∷ 2 ∷ 1 ∷ 0 ∷ []) (put_all [] (0 ∷ []) (nothing_found 3))
    ≡ record { order = (0 ∷ []) ∷ (1 ∷ 0 ∷ []) ∷ (2 ∷ 0 ∷ []) ∷ []; best = Some (0 ∷ []) ∷ Some (1 ∷ 0 ∷ []) ∷ Some (2 ∷ 0 ∷ []) ∷ [] }
found_once = refl
