-- The records of metadata: no JSON, the one fault that is reported, or the crates with their edges.
use Rattle.std.specs.Prelude.{◌≡◌, ℕ, List, [], map, Option, Some, None, option_map, unwrap_or, slice_get, Result, Ok}
use Rattle.std.specs.Prelude.{Err, ◌⊎◌}
use Rattle.std.specs.FinMap as finmap
use Rattle.std.specs.List.{filter_map}
use Rattle.std.specs.Option.{option_map_or}
use Rattle.serde_json.specs.Data.{Data}
use Rattle.serde_json.specs.Read.{read}
use Rattle.graph_core.specs.declared.edge.Edge.{Edge}
use Rattle.graph_metadata.specs.declared.order.Spot.{Spot}
use Rattle.graph_metadata.specs.declared.fault.MetaError.{MetaError}
use Rattle.graph_metadata.specs.declared.fault.MetaError.TheVariants.{Syntax, Shape, Memory}
use Rattle.graph_metadata.specs.Floats.{unless_float}
use Rattle.graph_core.specs.Krate.{CrateRecord}
use Rattle.graph_core.specs.Metadata.{Graph, CrateNode, Link}
use Rattle.graph_metadata.specs.Nodes.{RootTold, ResolveTold, NodesTold, root_row, resolve_row, nodes_read, all_deps}
use Rattle.graph_metadata.specs.Nodes.{all_edges}
use Rattle.graph_metadata.specs.Packages.{packages_in}
use Rattle.graph_metadata.specs.Shape.{IdPlaces}
use Rattle.graph_metadata.specs.Told.{MetadataReading, ◌>>=◌}

-- what all rows tell
pub record MetadataRows : Type 0 where
  pub root : RootTold
  pub crates : List CrateRecord
  pub resolve : ResolveTold
  pub nodes : NodesTold
  pub edges : List (List Edge)

-- ---- the graph of what the rows tell

-- where a crate is in the text: the place of its package, and that of its node, where it has one
abbrev pub spot_of : IdPlaces → List ℕ × ℕ → Spot
spot_of firsts entry = record { place = entry.1; node = finmap.get firsts entry.0 }

-- the spots of all crates, in the byte order of the ids
abbrev pub spots_of : IdPlaces → IdPlaces → List Spot
spots_of known firsts = map (spot_of firsts) (finmap.entries known)

-- the id of the package at a place
abbrev pub id_of_package : List CrateRecord → ℕ → List ℕ
id_of_package crates place = option_map_or (λ krate. krate.id) (slice_get crates place) []

-- an edge by the id of the package at its place
abbrev pub link_to : List CrateRecord → Edge → Link
link_to crates edge = record { to = id_of_package crates edge.to; kinds = edge.kinds }

-- the edges of a node; none without one
abbrev pub edges_of_node : List (List Edge) → Option ℕ → List Edge
edges_of_node lists None = []
edges_of_node lists (Some node) = unwrap_or (slice_get lists node) []

abbrev pub graph_node_at : List CrateRecord → List (List Edge) → Spot → Option CrateNode
graph_node_at crates lists spot =
    option_map (λ krate. record { krate = krate; edges = map (link_to crates) (edges_of_node lists spot.node) })
    (slice_get crates spot.place)

-- the crates in the byte order of their ids, each with the edges of the node that has its id
abbrev pub graph_of : MetadataRows → Graph
graph_of rows = record {
  nodes = filter_map (graph_node_at rows.crates rows.edges) (spots_of rows.root.known rows.nodes.firsts);
  members = map (λ member. member.id) rows.root.members;
  workspace_root = rows.root.workspace_root;
  root = option_map (id_of_package rows.crates) rows.resolve.root;
}

-- ---- the whole, in the order in which faults are reported

unfoldable pub rows_in : List ℕ → Data → MetadataReading MetadataRows
rows_in sparse_dir found = do
  value ← unless_float found
  root ← root_row value
  crates ← packages_in sparse_dir root.known root.packages
  resolve ← resolve_row root.known root.resolve
  nodes ← nodes_read root.known resolve.nodes
  deps ← all_deps root.known nodes.nodes
  edges ← all_edges deps
  Ok (record { root = root; crates = crates; resolve = resolve; nodes = nodes; edges = edges })

-- what a text tells; none where it is no JSON
abbrev pub rows_of : List ℕ → List ℕ → Option (MetadataReading MetadataRows)
rows_of text sparse_dir = option_map (rows_in sparse_dir) (read text)

-- the graph that a text tells of, or its fault; none where it is no JSON
abbrev pub told_graph : MetadataReading MetadataRows → MetadataReading Graph
told_graph (Ok rows) = Ok (graph_of rows)
told_graph (Err fault) = Err fault

abbrev pub metadata_of : List ℕ → List ℕ → Option (MetadataReading Graph)
metadata_of text sparse_dir = option_map told_graph (rows_of text sparse_dir)

-- ---- what the call answers

-- a refusal but want of memory has its cause
abbrev pub IsMetaCause : MetaError → Option (MetadataReading Graph) → Type 0
IsMetaCause Memory told = Unit {0}
IsMetaCause (Shape fault) told = told ≡ Some (Err fault)
IsMetaCause Syntax told = told ≡ None

-- and what is reported is answered, unless memory was refused
abbrev pub AnswersOr : {T : Type 0} → Result T MetaError → Result T MetaError → Type 0
AnswersOr result wanted = (result ≡ wanted) ⊎ (result ≡ Err Memory)
