-- The entries of a tree in memory, as what it holds. The root is not among them.
use Rattle.std.specs.Prelude.{T, List, [], ◌∷◌, map, Option}
use Rattle.std.specs.FinMap as map
use Rattle.tree_core.specs.Content.{Content, Place, TreeNode, file, folder, place_cmp, IsRooted}
use Rattle.tree_core.specs.declared.nodes.StoredNode.{StoredNode}
use Rattle.tree_core.specs.declared.nodes.StoredNode.TheVariants.{File, Folder}

abbrev pub node_of : StoredNode → TreeNode
node_of (File bytes) = file bytes
node_of Folder = folder

abbrev pub entry_of : Place × StoredNode → Place × TreeNode
entry_of entry = (entry.0, node_of entry.1)

-- the root, and what is stored
abbrev pub with_root : List (Place × StoredNode) → List (Place × TreeNode)
with_root entries = ([], folder) ∷ map entry_of entries

abbrev pub content_of : List (Place × StoredNode) → Content
content_of entries = map.from_sorted (with_root entries)

-- what is at a place
abbrev pub stored_at : List (Place × StoredNode) → Place → Option TreeNode
stored_at entries place = map.find place_cmp place (with_root entries)

-- places rise, none is the root, and what an entry is in is a folder
pub record IsSound (entries : List (Place × StoredNode)) : Type 0 where
  pub ordered : T (map.is_sorted place_cmp (with_root entries))
  pub rooted : IsRooted (content_of entries)
