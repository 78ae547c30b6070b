-- Crates, standings and edges of a graph by their places.
use Rattle.std.proofs.Common.{◌≡◌, ℕ, zero, suc, ◌<◌, Bool, true, List, [], ◌∷◌, length, slice_get, Contains, Some, option_map, refl, sym, ◌∙◌, ap, subst, arith}
use Rattle.std.specs.Option.{option_map_or}
use Rattle.std.proofs.lemmas.List.{length-map}
use Rattle.std.proofs.lemmas.Option.{slice_get-map, slice_get-get_or, slice_get_within, get_or_from_slice_get}
use Rattle.graph_core.specs.Krate.{CrateRecord}
use Rattle.graph_core.specs.Metadata.{Graph, CrateNode, AreRising, ids_of, id_of_node, edges_at}
use Rattle.graph_core.specs.selection.Choice.{Choice}
use Rattle.graph_core.specs.selection.Roots.{crates_of, IsCrateWith}
use Rattle.graph_core.specs.selection.Places.{no_standing, standing_at, standing_of, standings_in}
use Rattle.graph_core.proofs.selection.Rising.{id-at, one-place, some_same}

pub within-some : {A : Type 0} (xs : List A) (i : ℕ) → i < length xs → (x : A) × (slice_get xs i ≡ Some x)
within-some [] i h = absurd (omega arith)
within-some (x ∷ xs) zero h = (x, refl)
within-some (x ∷ xs) (suc i) h = within-some xs i (omega arith)

module _ (graph : Graph) (rising : AreRising (ids_of graph)) where
  pub node-at : (place : ℕ) → place < length graph.nodes → (node : CrateNode) × (slice_get graph.nodes place ≡ Some node)
  node-at place within = within-some graph.nodes place within

  pub crate-at : (place : ℕ) (node : CrateNode) → slice_get graph.nodes place ≡ Some node → slice_get (crates_of graph) place ≡ Some node.krate
  crate-at place node at =
      slice_get-map (λ (n : CrateNode). n.krate) graph.nodes place ∙ ap (option_map (λ (n : CrateNode). n.krate)) at

  crate-stands : (place : ℕ) (node : CrateNode) → slice_get graph.nodes place ≡ Some node → Contains (crates_of graph) node.krate
  crate-stands place node at = (
    place,
    slice_get_within (crates_of graph) place node.krate (crate-at place node at),
    get_or_from_slice_get (crates_of graph) place node.krate node.krate (crate-at place node at),
  )

  pub node-stands : (place : ℕ) (node : CrateNode) → slice_get graph.nodes place ≡ Some node → Contains graph.nodes node
  node-stands place node at =
      (place, slice_get_within graph.nodes place node at, get_or_from_slice_get graph.nodes place node node at)

  -- the place of a crate
  place-of : (krate : CrateRecord) → Contains (crates_of graph) krate
      → (place : ℕ) × (node : CrateNode) × (slice_get graph.nodes place ≡ Some node) × (node.krate ≡ krate)
  place-of krate (place, within, at) =
      let found = node-at place (subst (λ n. place < n) (length-map graph.nodes (λ (n : CrateNode). n.krate)) within) in (
        place,
        found.0,
        found.1,
        some_same found.0.krate krate (sym (crate-at place found.0 found.1)
            ∙ (slice_get-get_or (crates_of graph) place krate within ∙ ap Some at)),
      )

  -- what passes a test at an id passes it at the place of the id
  pub with-place : (test : CrateRecord → Bool) (id : List ℕ) → IsCrateWith graph test id
      → (place : ℕ) × (node : CrateNode) × (slice_get graph.nodes place ≡ Some node) × (id_of_node graph place ≡ id) × (test node.krate ≡ true)
  with-place test id found =
      let here = place-of found.krate found.stands in (
        here.0,
        here.1,
        here.2,
        id-at graph rising here.0 here.1 here.2 ∙ (ap (λ (krate : CrateRecord). krate.id) here.3 ∙ found.named),
        ap test here.3 ∙ found.passes,
      )

  pub with-at : (test : CrateRecord → Bool) (place : ℕ) (node : CrateNode) → slice_get graph.nodes place ≡ Some node
      → test node.krate ≡ true → IsCrateWith graph test (id_of_node graph place)
  with-at test place node at passes = record {
    krate = node.krate;
    stands = crate-stands place node at;
    named = sym (id-at graph rising place node at);
    passes = passes;
  }

  -- and at no other
  pub with-not : (test : CrateRecord → Bool) (place : ℕ) (node : CrateNode) → slice_get graph.nodes place ≡ Some node
      → IsCrateWith graph test (id_of_node graph place) → test node.krate ≡ true
  with-not test place node at found =
      let other = with-place test (id_of_node graph place) found in
      let same : other.0 ≡ place =
      one-place graph rising other.0 place (slice_get_within graph.nodes other.0 other.1 other.2) (slice_get_within graph.nodes place node at) other.3 in
      let nodes : other.1 ≡ node = some_same other.1 node (sym other.2 ∙ (ap (slice_get graph.nodes) same ∙ at)) in
      subst (λ (n : CrateNode). test n.krate ≡ true) nodes other.4

  pub standing-is : (choice : Choice) (place : ℕ) (node : CrateNode) → slice_get graph.nodes place ≡ Some node
      → standing_at (standings_in graph choice) place ≡ standing_of graph choice node.krate
  standing-is choice place node at =
      get_or_from_slice_get (standings_in graph choice) place (standing_of graph choice node.krate) no_standing
      (slice_get-map (standing_of graph choice) (crates_of graph) place
      ∙ ap (option_map (standing_of graph choice)) (crate-at place node at))

  pub edges-is : (place : ℕ) (node : CrateNode) → slice_get graph.nodes place ≡ Some node → edges_at graph place ≡ node.edges
  edges-is place node at = ap (λ o. option_map_or (λ (n : CrateNode). n.edges) o []) at
