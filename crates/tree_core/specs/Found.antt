-- What a look-up in a tree in memory finds.
use Rattle.std.specs.Prelude.{Option, Some, None}
use Rattle.tree_core.specs.Content.{TreeNode, file, folder}
use Rattle.tree_core.specs.declared.nodes.FoundNode.{FoundNode}
use Rattle.tree_core.specs.declared.nodes.FoundNode.TheVariants.{Nothing, File, Folder}

abbrev pub found_node : FoundNode → Option TreeNode
found_node Nothing = None
found_node (File bytes) = Some (file bytes.now)
found_node Folder = Some folder
