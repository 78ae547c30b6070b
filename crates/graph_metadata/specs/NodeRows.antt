-- What the rows of the code hold below the root, without where it lies in memory.
use Rattle.std.specs.Prelude.{List, map, option_map, Vec}
use Rattle.std.specs.Global.{Global}
use Rattle.serde_json.specs.View.{view, items_view}
use Rattle.graph_metadata.specs.declared.nodes.MemberRow.{MemberRow}
use Rattle.graph_metadata.specs.declared.nodes.RootRow.{RootRow}
use Rattle.graph_metadata.specs.declared.nodes.ResolveRow.{ResolveRow}
use Rattle.graph_metadata.specs.declared.nodes.NodeRow.{NodeRow}
use Rattle.graph_metadata.specs.declared.nodes.NodesRow.{NodesRow}
use Rattle.graph_metadata.specs.declared.nodes.DepRow.{DepRow}
use Rattle.graph_metadata.specs.Nodes.{Member, RootTold, ResolveTold, NodeTold, NodesTold, DepTold}

abbrev pub member_of : MemberRow → Member
member_of row = record { id = row.id.now; place = row.place }

abbrev pub root_of : RootRow → RootTold
root_of row = record {
  packages = items_view row.packages.now;
  known = row.known;
  members = map member_of row.members.items;
  workspace_root = row.workspace_root.now;
  resolve = view row.resolve.now;
}

abbrev pub resolve_of : ResolveRow → ResolveTold
resolve_of row = record { nodes = items_view row.nodes.now; root = row.root }

abbrev pub node_of : NodeRow → NodeTold
node_of row = record { deps = items_view row.deps.now }

abbrev pub nodes_of : NodesRow → NodesTold
nodes_of row = record { firsts = row.firsts; nodes = map node_of row.nodes.items }

abbrev pub dep_of : DepRow → DepTold
dep_of row = record { to = row.to; kinds = option_map (λ items. items_view items.now) row.kinds }

abbrev pub deps_of : Vec DepRow Global → List DepTold
deps_of deps = map dep_of deps.items
