-- The ids of the graph that a text tells rise strictly, so that no two crates have one id.
use Rattle.std.proofs.Common.{◌≡◌, ℕ, List, [], ◌∷◌, map, slice_get, Option, Some, None, option_map, Ok, Err, refl, sym, ◌∙◌, ap, subst}
use Rattle.std.specs.List.{filter_map, cons_option}
use Rattle.std.specs.FinMap as finmap
use Rattle.std.proofs.lemmas.Option.{slice_get-map}
use Rattle.serde_json.specs.Data.{Data}
use Rattle.serde_json.specs.Read.{read}
use Rattle.graph_core.specs.declared.edge.Edge.{Edge}
use Rattle.graph_core.specs.Krate.{CrateRecord, ids_in}
use Rattle.graph_core.specs.Metadata.{Graph, CrateNode, AreRising, ids_of}
use Rattle.graph_metadata.specs.Records.{MetadataRows, edges_of_node, graph_of, link_to, graph_node_at, metadata_of, rows_in, spot_of, told_graph}
use Rattle.graph_metadata.specs.Shape.{IdPlaces}
use Rattle.graph_metadata.specs.Sound.{HasIdAt}
use Rattle.graph_metadata.specs.Told.{MetadataReading}
use Rattle.graph_metadata.proofs.EntryLemmas.{AllEntries, keys-rise, none_some, same_some}
use Rattle.graph_metadata.proofs.SoundLemmas.{sound}

module _ (firsts : IdPlaces) (crates : List CrateRecord) (lists : List (List Edge)) where
  -- a crate that is at its place has a node with its id
  id-first : (krate : Option CrateRecord) (node : Option ℕ) (id : List ℕ) → option_map (λ one. one.id) krate ≡ Some id → (rest : List CrateNode)
      → map (λ one. one.krate.id) (cons_option (option_map (λ one. record { krate = one; edges = map (link_to crates) (edges_of_node lists node) }) krate) rest)
      ≡ id ∷ map (λ one. one.krate.id) rest
  id-first None node id e rest = absurd (none_some id e)
  id-first (Some krate) node id e rest = ap (λ first. first ∷ map (λ one. one.krate.id) rest) (same_some krate.id id e)

  ids-nodes : (es : List (List ℕ × ℕ)) → AllEntries (HasIdAt (ids_in crates)) es
      → map (λ one. one.krate.id) (filter_map (graph_node_at crates lists) (map (spot_of firsts) es)) ≡ map (λ e. e.0) es
  ids-nodes [] h = refl
  ids-nodes (e ∷ es) h =
      id-first (slice_get crates e.1) (finmap.get firsts e.0) e.0 (sym (slice_get-map (λ (one : CrateRecord). one.id) crates e.1) ∙ h.0)
      (filter_map (graph_node_at crates lists) (map (spot_of firsts) es))
      ∙ ap (λ rest. e.0 ∷ rest) (ids-nodes es h.1)

rows-rise : (sparse_dir : List ℕ) (found : Data) (rows : MetadataRows) → rows_in sparse_dir found ≡ Ok rows → AreRising (ids_of (graph_of rows))
rows-rise sparse_dir found rows e =
    let known = finmap.entries rows.root.known in
    subst AreRising
    (sym (ids-nodes rows.nodes.firsts rows.crates rows.edges known (sound sparse_dir found rows e).located))
    (keys-rise known (finmap.entries_sorted rows.root.known))

ok-same : {A : Type 0} (x y : A) → ◌≡◌ {A = MetadataReading A} (Ok x) (Ok y) → x ≡ y
ok-same x y e = cc

told-rise : (sparse_dir : List ℕ) (found : Data) (told : MetadataReading MetadataRows) (graph : Graph) → rows_in sparse_dir found ≡ told
    → told_graph told ≡ Ok graph → AreRising (ids_of graph)
told-rise sparse_dir found (Ok rows) graph e is =
    subst (λ one. AreRising (ids_of one)) (ok-same (graph_of rows) graph is) (rows-rise sparse_dir found rows e)
told-rise sparse_dir found (Err fault) graph e is = absurd (cc)

read-rise : (sparse_dir : List ℕ) (value : Option Data) (graph : Graph)
    → option_map told_graph (option_map (rows_in sparse_dir) value) ≡ Some (Ok graph) → AreRising (ids_of graph)
read-rise sparse_dir None graph e = absurd (none_some (Ok graph) e)
read-rise sparse_dir (Some found) graph e =
    told-rise sparse_dir found (rows_in sparse_dir found) graph refl (same_some (told_graph (rows_in sparse_dir found)) (Ok graph) e)

-- the ids of a text's graph rise
pub graph-rising : (text sparse_dir : List ℕ) (graph : Graph) → metadata_of text sparse_dir ≡ Some (Ok graph) → AreRising (ids_of graph)
graph-rising text sparse_dir graph e = read-rise sparse_dir (read text) graph e
