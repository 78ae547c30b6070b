-- What all rows of the code hold, without where it lies in memory.
use Rattle.std.specs.Prelude.{map}
use Rattle.graph_core.specs.Krate.{record_of}
use Rattle.graph_metadata.specs.declared.rows.AllRows.{AllRows}
use Rattle.graph_metadata.specs.NodeRows.{root_of, resolve_of, nodes_of}
use Rattle.graph_metadata.specs.Records.{MetadataRows}

abbrev pub rows_view : AllRows → MetadataRows
rows_view rows = record {
  root = root_of rows.root;
  crates = map record_of rows.crates.items;
  resolve = resolve_of rows.resolve;
  nodes = nodes_of rows.nodes;
  edges = rows.edges.items;
}
