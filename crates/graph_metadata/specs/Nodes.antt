-- The rows of the root, of `resolve`, of nodes, of dependencies and of their kinds.
use Rattle.std.specs.Prelude.{ℕ, ◌+◌, List, true, codes, bytes_eq, Option, Some, None, Ok, if◌then◌else◌}
use Rattle.std.specs.FinMap as finmap
use Rattle.serde_json.specs.Data.{Data, array, Items, no_items, item}
use Rattle.serde_json.specs.Find.{get}
use Rattle.graph_core.specs.declared.edge.Edge.{Edge}
use Rattle.graph_core.specs.declared.edge.Kinds.{Kinds}
use Rattle.graph_core.specs.declared.edge.DepKind.{DepKind}
use Rattle.graph_core.specs.declared.edge.DepKind.TheVariants.{Normal, Dev, Build}
use Rattle.graph_core.specs.Metadata.{no_kinds}
use Rattle.graph_metadata.specs.declared.fault.MetaReason.TheVariants.{Missing, WrongKind, UnknownKind}
use Rattle.graph_metadata.specs.declared.fault.ObjectPlace.{ObjectPlace}
use Rattle.graph_metadata.specs.declared.fault.ObjectPlace.TheVariants.{Root, Resolve, Node, Dep, Kind}
use Rattle.graph_metadata.specs.Shape.{object_here, text_at, text_here, optional_text_at, list_at, list_or_empty_at}
use Rattle.graph_metadata.specs.Shape.{IdPlaces, known_of, known_place, new_from}
use Rattle.graph_metadata.specs.Told.{MetadataReading, ◌>>=◌, reading_of_each, each_item, meta_fault, object_place_text}
use Rattle.graph_metadata.specs.Told.{key_place, item_place}

-- ---- the root

-- a member: its id, and the place of its package
pub record Member : Type 0 where
  pub id : List ℕ
  pub place : ℕ

unfoldable pub member_row : IdPlaces → ℕ → Data → MetadataReading Member
member_row known index found = do
  id ← text_here (item_place Root (codes "workspace_members") index) found
  place ← known_place known (item_place Root (codes "workspace_members") index) id
  Ok (record { id = id; place = place })

abbrev pub members_in : IdPlaces → Items → MetadataReading (List Member)
members_in known items = each_item (member_row known) items

-- an object that has to be there
abbrev pub object_from : List ℕ → Option Data → MetadataReading Data
object_from place None = meta_fault place Missing
object_from place (Some found) = object_here place found

abbrev pub object_at : ObjectPlace → List ℕ → Data → MetadataReading Data
object_at place key found = object_from (key_place place key) (get key found)

pub record RootTold : Type 0 where
  pub packages : Items
  pub known : IdPlaces
  pub members : List Member
  pub workspace_root : List ℕ
  pub resolve : Data

unfoldable pub root_row : Data → MetadataReading RootTold
root_row found = do
  root ← object_here (object_place_text Root) found
  packages ← list_at Root (codes "packages") root
  listed ← list_at Root (codes "workspace_members") root
  members ← members_in (known_of packages) listed
  workspace_root ← text_at Root (codes "workspace_root") root
  resolve ← object_at Root (codes "resolve") root
  Ok (record {
    packages = packages;
    known = known_of packages;
    members = members;
    workspace_root = workspace_root;
    resolve = resolve;
  })

-- ---- `resolve`

abbrev pub known_or_null : IdPlaces → List ℕ → Option (List ℕ) → MetadataReading (Option ℕ)
known_or_null known place None = Ok None
known_or_null known place (Some id) = do
  root ← known_place known place id
  Ok (Some root)

pub record ResolveTold : Type 0 where
  pub nodes : Items
  pub root : Option ℕ

unfoldable pub resolve_row : IdPlaces → Data → MetadataReading ResolveTold
resolve_row known found = do
  nodes ← list_at Resolve (codes "nodes") found
  text ← optional_text_at Resolve (codes "root") found
  root ← known_or_null known (key_place Resolve (codes "root")) text
  Ok (record { nodes = nodes; root = root })

-- ---- nodes

-- the dependencies of a node
pub record NodeTold : Type 0 where
  pub deps : Items

-- `firsts` leads from an id to the first node that has it
unfoldable pub node_row : IdPlaces → IdPlaces → ℕ → Data → MetadataReading NodeTold
node_row known firsts index found = do
  node ← object_here (object_place_text (Node index)) found
  id ← text_at (Node index) (codes "id") node
  place ← known_place known (key_place (Node index) (codes "id")) id
  new ← new_from index (key_place (Node index) (codes "id")) id (finmap.get firsts id)
  deps ← list_or_empty_at (Node index) (codes "deps") node
  Ok (record { deps = deps })

abbrev pub nodes_with : IdPlaces → IdPlaces → Items → MetadataReading (List NodeTold)
nodes_with known firsts nodes = each_item (node_row known firsts) nodes

-- the nodes, of which no two have one id, and the place of the node that has an id
pub record NodesTold : Type 0 where
  pub firsts : IdPlaces
  pub nodes : List NodeTold

unfoldable pub nodes_read : IdPlaces → Items → MetadataReading NodesTold
nodes_read known nodes = do
  listed ← nodes_with known (known_of nodes) nodes
  Ok (record { firsts = known_of nodes; nodes = listed })

-- ---- dependencies

-- the place of the package that it leads to, and the list of its kinds, where there is one
pub record DepTold : Type 0 where
  pub to : ℕ
  pub kinds : Option Items

abbrev pub kinds_list_from : List ℕ → Option Data → MetadataReading (Option Items)
kinds_list_from place None = Ok None
kinds_list_from place (Some (array items)) = Ok (Some items)
kinds_list_from place (Some _) = meta_fault place WrongKind

abbrev pub kinds_list_at : ObjectPlace → List ℕ → Data → MetadataReading (Option Items)
kinds_list_at place key found = kinds_list_from (key_place place key) (get key found)

unfoldable pub dep_row : IdPlaces → ℕ → ℕ → Data → MetadataReading DepTold
dep_row known i j found = do
  dep ← object_here (object_place_text (Dep i j)) found
  id ← text_at (Dep i j) (codes "pkg") dep
  to ← known_place known (key_place (Dep i j) (codes "pkg")) id
  kinds ← kinds_list_at (Dep i j) (codes "dep_kinds") dep
  Ok (record { to = to; kinds = kinds })

abbrev pub deps_in : IdPlaces → ℕ → NodeTold → MetadataReading (List DepTold)
deps_in known i node = each_item (dep_row known i) node.deps

-- the dependencies of all nodes
abbrev pub all_deps : IdPlaces → List NodeTold → MetadataReading (List (List DepTold))
all_deps known nodes = reading_of_each (deps_in known) 0 nodes

-- ---- kinds

-- a set with one more
abbrev pub with_kind : Kinds → DepKind → Kinds
with_kind kinds Normal = record kinds { normal = true }
with_kind kinds Dev = record kinds { dev = true }
with_kind kinds Build = record kinds { build = true }

abbrev pub kind_named : List ℕ → List ℕ → MetadataReading DepKind
kind_named place name =
    if bytes_eq name (codes "dev") then Ok Dev
    else (if bytes_eq name (codes "build") then Ok Build else meta_fault place UnknownKind)

-- null is a normal dependency, and so is nothing
abbrev pub kind_from : List ℕ → Option (List ℕ) → MetadataReading DepKind
kind_from place None = Ok Normal
kind_from place (Some name) = kind_named place name

unfoldable pub kind_row : ObjectPlace → Data → MetadataReading DepKind
kind_row place found = do
  listed ← object_here (object_place_text place) found
  name ← optional_text_at place (codes "kind") listed
  kind_from (key_place place (codes "kind")) name

-- the kinds with those of the items from the one at this index on
unfoldable pub kinds_in : ℕ → ℕ → ℕ → Kinds → Items → MetadataReading Kinds
kinds_in i j k kinds no_items = Ok kinds
kinds_in i j k kinds (item first rest) = do
  kind ← kind_row (Kind i j k) first
  kinds_in i j (k + 1) (with_kind kinds kind) rest

-- without a list a dependency is a normal one
abbrev pub kinds_of : ℕ → ℕ → Option Items → MetadataReading Kinds
kinds_of i j None = Ok (with_kind no_kinds Normal)
kinds_of i j (Some items) = kinds_in i j 0 no_kinds items

unfoldable pub edge_row : ℕ → ℕ → DepTold → MetadataReading Edge
edge_row i j dep = do
  kinds ← kinds_of i j dep.kinds
  Ok (record { to = dep.to; kinds = kinds })

abbrev pub edges_in : ℕ → List DepTold → MetadataReading (List Edge)
edges_in i deps = reading_of_each (edge_row i) 0 deps

-- the edges of all nodes
abbrev pub all_edges : List (List DepTold) → MetadataReading (List (List Edge))
all_edges lists = reading_of_each edges_in 0 lists
