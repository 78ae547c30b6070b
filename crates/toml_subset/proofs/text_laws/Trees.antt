-- A tree of tables whose spans lie in a text.
use Rattle.std.proofs.Common.{ℕ, List, [], ◌∷◌}
use Rattle.toml_subset.specs.Tables.{Node, Branches, Bodies, closed, growing, tables, unbranched, branch, last, body, span_of, content_of, entries_of, items_of}
use Rattle.toml_subset.specs.declared.string.Key.{Key}
use Rattle.deny_text.specs.Spans.{LiesBetween}
use Rattle.toml_subset.specs.text_laws.Placed.{IsKeyPlaced, IsContentPlaced, AreItemsPlaced, AreEntriesPlaced}

-- the parts of a key
abbrev pub ArePartsPlaced : List ℕ → List Key → Type 0
ArePartsPlaced text [] = Unit {0}
ArePartsPlaced text (key ∷ more) = IsKeyPlaced text key × ArePartsPlaced text more

abbrev mutual
  pub IsNodePlaced : List ℕ → Node → Type 0
  IsNodePlaced text (closed span content) = LiesBetween text span × IsContentPlaced text span content
  IsNodePlaced text (growing span mark branches) = LiesBetween text span × AreBranchesPlaced text branches
  IsNodePlaced text (tables span bodies) = LiesBetween text span × AreBodiesPlaced text bodies

  pub AreBranchesPlaced : List ℕ → Branches → Type 0
  AreBranchesPlaced text unbranched = Unit {0}
  AreBranchesPlaced text (branch key node more) = IsKeyPlaced text key × IsNodePlaced text node × AreBranchesPlaced text more

  pub AreBodiesPlaced : List ℕ → Bodies → Type 0
  AreBodiesPlaced text (last span branches) = LiesBetween text span × AreBranchesPlaced text branches
  AreBodiesPlaced text (body span branches more) = LiesBetween text span × AreBranchesPlaced text branches × AreBodiesPlaced text more

pub node_span : (text : List ℕ) (node : Node) → IsNodePlaced text node → LiesBetween text (span_of node)
node_span text (closed span content) is = is.0
node_span text (growing span mark branches) is = is.0
node_span text (tables span bodies) is = is.0

-- the values that they come to
mutual
  pub node_content : (text : List ℕ) (node : Node) → IsNodePlaced text node → IsContentPlaced text (span_of node) (content_of node)
  node_content text (closed span content) is = is.1
  node_content text (growing span mark branches) is = branches_entries text branches is.1
  node_content text (tables span bodies) is = bodies_items text bodies is.1

  pub branches_entries : (text : List ℕ) (branches : Branches) → AreBranchesPlaced text branches → AreEntriesPlaced text (entries_of branches)
  branches_entries text unbranched is = tt
  branches_entries text (branch key node more) is = (is.0, node_span text node is.1, node_content text node is.1, branches_entries text more is.2)

  pub bodies_items : (text : List ℕ) (bodies : Bodies) → AreBodiesPlaced text bodies → AreItemsPlaced text (items_of bodies)
  bodies_items text (last span branches) is = (is.0, branches_entries text branches is.1, tt)
  bodies_items text (body span branches more) is = (is.0, branches_entries text branches is.1, bodies_items text more is.2)
