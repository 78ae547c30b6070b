-- The graph that the parts of metadata make.
use Rattle.std.specs.Prelude.{ℕ, List, Option, option_map}
use Rattle.graph_core.specs.declared.krate.Krate.{Krate}
use Rattle.graph_core.specs.declared.edge.Edge.{Edge}
use Rattle.graph_core.specs.Metadata.{Graph, nodes_of, crate_id_at}

-- Crates, the edges out of each, the members, the root folder, and the place of the root crate.
abbrev pub graph_with : List Krate → List (List Edge) → List (List ℕ) → List ℕ → Option ℕ → Graph
graph_with crates lists members workspace_root root = record {
  nodes = nodes_of crates crates lists;
  members = members;
  workspace_root = workspace_root;
  root = option_map (crate_id_at crates) root;
}
