-- What the parts of metadata say of the graph that they make.
use Rattle.std.proofs.Common.{◌≡◌, ℕ, zero, suc, ◌<◌, List, [], ◌∷◌, map, length, slice_get, slice_index_or, Option, unwrap_or, option_map, All, IfSome, refl, sym, ◌∙◌, ap, subst, arith}
use Rattle.std.specs.Option.{option_map_or}
use Rattle.graph_core.specs.declared.krate.Krate.{Krate}
use Rattle.graph_core.specs.declared.edge.Edge.{Edge}
use Rattle.graph_core.specs.Graph.{graph_with}
use Rattle.graph_core.specs.Krate.{CrateRecord, record_of, id_of}
use Rattle.graph_core.specs.Metadata.{Graph, CrateNode, Link, nodes_of, crate_id_at, link_of, ids_of, id_of_node, link_in, edges_at, AreRising, ArePlaces, IsPlace, LeadWithin}

pub krates-nodes : (all crates : List Krate) (lists : List (List Edge))
    → map (λ node. node.krate) (nodes_of all crates lists) ≡ map record_of crates
krates-nodes all [] lists = refl
krates-nodes all (krate ∷ crates) [] = ap (λ rest. record_of krate ∷ rest) (krates-nodes all crates [])
krates-nodes all (krate ∷ crates) (edges ∷ lists) = ap (λ rest. record_of krate ∷ rest) (krates-nodes all crates lists)

pub ids-nodes : (all crates : List Krate) (lists : List (List Edge))
    → map (λ node. node.krate.id) (nodes_of all crates lists) ≡ map id_of crates
ids-nodes all [] lists = refl
ids-nodes all (krate ∷ crates) [] = ap (λ rest. krate.id ∷ rest) (ids-nodes all crates [])
ids-nodes all (krate ∷ crates) (edges ∷ lists) = ap (λ rest. krate.id ∷ rest) (ids-nodes all crates lists)

pub length-nodes : (all crates : List Krate) (lists : List (List Edge))
    → length (nodes_of all crates lists) ≡ length crates
length-nodes all [] lists = refl
length-nodes all (krate ∷ crates) [] = ap suc (length-nodes all crates [])
length-nodes all (krate ∷ crates) (edges ∷ lists) = ap suc (length-nodes all crates lists)

edges-nodes : (all crates : List Krate) (lists : List (List Edge)) (place : ℕ) (edges : List Edge)
    → place < length crates → length lists ≡ length crates → edges ≡ slice_index_or lists place edges
    → option_map_or (λ node. node.edges) (slice_get (nodes_of all crates lists) place) [] ≡ map (link_of all) edges
edges-nodes all [] lists place edges h e at = absurd (omega arith)
edges-nodes all (krate ∷ crates) [] place edges h e at = absurd (omega arith)
edges-nodes all (krate ∷ crates) (first ∷ lists) zero edges h e at = ap (map (link_of all)) (sym at)
edges-nodes all (krate ∷ crates) (first ∷ lists) (suc place) edges h e at =
    edges-nodes all crates lists place edges (omega arith) (omega arith) at

-- ---- the same of a graph

module _ (crates : List Krate) (lists : List (List Edge)) (members : List (List ℕ)) (folder : List ℕ) (root : Option ℕ) where
  abbrev made : Graph
  made = graph_with crates lists members folder root

  ids : ids_of made ≡ map id_of crates
  ids = ids-nodes crates crates lists

  pub made-rising : AreRising (map id_of crates) → AreRising (ids_of made)
  made-rising rising = subst AreRising (sym ids) rising

  pub made-root : option_map (id_of_node made) root ≡ made.root
  made-root = ap (λ found. option_map (λ place. unwrap_or (slice_get found place) []) root) ids

  pub made-members : (places : List ℕ) → map (id_of_node made) places ≡ map (crate_id_at crates) places
  made-members places = ap (λ found. map (λ place. unwrap_or (slice_get found place) []) places) ids

  pub made-place : IsPlace (length crates) root → IsPlace (length made.nodes) root
  made-place h = subst (λ count. IsPlace count root) (sym (length-nodes crates crates lists)) h

  pub made-places : (places : List ℕ) → ArePlaces (length crates) places → ArePlaces (length made.nodes) places
  made-places places h = subst (λ count. ArePlaces count places) (sym (length-nodes crates crates lists)) h

  pub made-within : (edges : List Edge) → LeadWithin (length crates) edges → LeadWithin (length made.nodes) edges
  made-within edges h = subst (λ count. LeadWithin count edges) (sym (length-nodes crates crates lists)) h

  pub made-edges : (place : ℕ) (edges : List Edge) → place < length made.nodes → length lists ≡ length crates
      → edges ≡ slice_index_or lists place edges → map (link_in made) edges ≡ edges_at made place
  made-edges place edges h e at =
      let below : place < length crates = subst (λ count. place < count) (length-nodes crates crates lists) h in
      ap (λ found. map (λ edge. record { to = unwrap_or (slice_get found edge.to) []; kinds = edge.kinds }) edges) ids
      ∙ sym (edges-nodes crates crates lists place edges below e at)

  pub made-below : (place : ℕ) → place < length made.nodes → length lists ≡ length crates → place < length lists
  made-below place h e =
      subst (λ count. place < count) (sym e) (subst (λ count. place < count) (length-nodes crates crates lists) h)
