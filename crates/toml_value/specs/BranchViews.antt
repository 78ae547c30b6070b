-- What the program's tables that may grow stand for.
use Rattle.std.specs.Prelude.{Bool, true, ◌&&◌, ◌==◌, List, [], ◌∷◌, length, Option, Some, None}
use Rattle.std.specs.List.{list_all}
use Rattle.deny_text.specs.declared.span.Span.{Span}
use Rattle.toml_subset.specs.Tables as «tables»
use Rattle.toml_subset.specs.Tables.{Node, Branches}
use Rattle.toml_subset.specs.Data as «data»
use Rattle.toml_subset.specs.Data.{Items, Toml}
use Rattle.toml_subset.specs.frames.Levels.{bodies_to}
use Rattle.toml_subset.specs.declared.string.Key.{Key}
use Rattle.toml_value.specs.Views.{value_view}
use Rattle.toml_value.specs.declared.value.Value.{Value}
use Rattle.toml_value.specs.declared.tree.Mark.{Mark}
use Rattle.toml_value.specs.declared.tree.Mark.TheVariants.{Header, Implicit, Dotted}
use Rattle.toml_value.specs.declared.tree.Node.{Node as NodeOf, fold-Node}
use Rattle.toml_value.specs.declared.tree.Node.TheOpen.{Node-F, Branches-F, Body-F}
use Rattle.toml_value.specs.declared.tree.Branches.{Branches as BranchesOf, fold-Branches}
use Rattle.toml_value.specs.declared.tree.Body.{Body as BodyOf, fold-Body}

abbrev pub mark_of : Mark → tables.Mark
mark_of Header = tables.by_header
mark_of Implicit = tables.implicit
mark_of Dotted = tables.dotted

-- the place and the keys of a table that a dotted key made
abbrev pub parts_of_dotted : Node → Option (Span × Branches)
parts_of_dotted (tables.closed span content) = None
parts_of_dotted (tables.growing span tables.by_header branches) = None
parts_of_dotted (tables.growing span tables.implicit branches) = None
parts_of_dotted (tables.growing span tables.dotted branches) = Some (span, branches)
parts_of_dotted (tables.tables span bodies) = None

-- each key with its node
abbrev pub branches_of_lists : List Key → List Node → Branches
branches_of_lists [] nodes = tables.unbranched
branches_of_lists (key ∷ keys) [] = tables.unbranched
branches_of_lists (key ∷ keys) (node ∷ nodes) = tables.branch key node (branches_of_lists keys nodes)

-- tables of an array of tables as the items of an array
abbrev pub body_items : List (Span × Branches) → Items
body_items [] = data.no_item
body_items (x ∷ more) = data.item x.0 (data.table (tables.entries_of x.1)) (body_items more)

-- a value as it was written
abbrev pub closed_node : Value → Node
closed_node value = tables.closed (value_view value).span (value_view value).content

-- the value that is at a key in the end
abbrev pub node_value : Node → Toml
node_value node = record { content = tables.content_of node; span = tables.span_of node }

-- one level of a tree, with what is in it already seen
abbrev pub node_step : Node-F Node (Span × Branches) Branches → Node
node_step (Node-F.Closed value) = closed_node value
node_step (Node-F.Growing span mark branches) = tables.growing span (mark_of mark) branches
node_step (Node-F.Tables span before last inner) = tables.tables span (bodies_to before.items last inner)

abbrev pub branches_step : Branches-F Node (Span × Branches) Branches → Branches
branches_step x = branches_of_lists x.keys x.nodes.items

abbrev pub body_step : Body-F Node (Span × Branches) Branches → Span × Branches
body_step x = (x.span, x.table)

abbrev pub node_view : NodeOf → Node
node_view = fold-Node Node (Span × Branches) Branches node_step body_step branches_step

abbrev pub branches_view : BranchesOf → Branches
branches_view = fold-Branches Node (Span × Branches) Branches node_step body_step branches_step

abbrev pub body_view : BodyOf → Span × Branches
body_view = fold-Body Node (Span × Branches) Branches node_step body_step branches_step

-- whether each table below has as many nodes as keys
abbrev pub whole_node_step : Node-F Bool Bool Bool → Bool
whole_node_step (Node-F.Closed value) = true
whole_node_step (Node-F.Growing span mark whole) = whole
whole_node_step (Node-F.Tables span before last whole) = list_all (λ whole. whole) before.items && whole

abbrev pub whole_step : Branches-F Bool Bool Bool → Bool
whole_step x = (length x.keys == length x.nodes.items) && list_all (λ whole. whole) x.nodes.items

abbrev pub whole_body_step : Body-F Bool Bool Bool → Bool
whole_body_step x = x.table

abbrev pub is_whole_node : NodeOf → Bool
is_whole_node = fold-Node Bool Bool Bool whole_node_step whole_body_step whole_step

abbrev pub is_whole : BranchesOf → Bool
is_whole = fold-Branches Bool Bool Bool whole_node_step whole_body_step whole_step

abbrev pub is_whole_body : BodyOf → Bool
is_whole_body = fold-Body Bool Bool Bool whole_node_step whole_body_step whole_step
