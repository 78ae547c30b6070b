-- Walks over the edges of a graph, and the crates that they reach.
use Rattle.std.specs.Prelude.{◌≡◌, ◌≢◌, ℕ, List, [], ◌∷◌, false, All, Contains, IsTrue, Option, Some, None, ⊤}
use Rattle.graph_core.specs.declared.edge.DepKind.{DepKind}
use Rattle.graph_core.specs.declared.edge.DepKind.TheVariants.{Normal, Dev, Build}
use Rattle.graph_core.specs.declared.edge.Kinds.{Kinds}
use Rattle.graph_core.specs.Metadata.{Graph, Link, CrateNode}
use Rattle.graph_core.specs.declared.selection.selection.Include.{Include}
use Rattle.graph_core.specs.selection.Choice.{Choice}
use Rattle.graph_core.specs.selection.Roots.{is_member, IsRoot, IsExcluded}

-- an edge from one crate to another, by their ids, with its kinds
pub record Step : Type 0 where
  pub from : List ℕ
  pub to : List ℕ
  pub kinds : Kinds

abbrev pub link_of_step : Step → Link
link_of_step step = record { to = step.to; kinds = step.kinds }

-- an edge of the graph: it is among those of the node that it begins at
pub record IsEdge (graph : Graph) (step : Step) : Type 0 where
  pub node : CrateNode
  pub stands : Contains graph.nodes node
  pub begins : node.krate.id ≡ step.from
  pub listed : Contains node.edges (link_of_step step)

-- ---- which edges count

-- A kind leaves an edge where its list holds it. The kind dev counts only where the edge begins at a member, and where
-- dev dependencies are not excluded.
abbrev pub IsLeftBy : Graph → Choice → Step → DepKind → Type 0
IsLeftBy graph choice step Normal = IsTrue step.kinds.normal
IsLeftBy graph choice step Build = IsTrue step.kinds.build
IsLeftBy graph choice step Dev =
    IsTrue step.kinds.dev × IsTrue (is_member graph step.from) × (choice.exclude_dev ≡ false)

-- another kind than the one named, if one is
abbrev pub IsOther : Option DepKind → DepKind → Type 0
IsOther None kind = ⊤
IsOther (Some named) kind = kind ≢ named

-- an edge that is left by some kind other than the one named
pub record IsLeft (graph : Graph) (choice : Choice) (named : Option DepKind) (step : Step) : Type 0 where
  pub kind : DepKind
  pub other : IsOther named kind
  pub leaves : IsLeftBy graph choice step kind

-- ---- walks

-- a list of edges, each of which begins where the one before ended; without edges it ends where it begins
abbrev pub IsWalk : List ℕ → List Step → List ℕ → Type 0
IsWalk from [] to = from ≡ to
IsWalk from (step ∷ steps) to = (step.from ≡ from) × IsWalk step.to steps to

-- an edge that a walk may take: it is left, and ends at no crate that is excluded
pub record MayBeTaken (graph : Graph) (choice : Choice) (named : Option DepKind) (step : Step) : Type 0 where
  pub edge : IsEdge graph step
  pub left : IsLeft graph choice named step
  pub ends : IsExcluded graph choice step.to → ⊥

-- the crate at the end of a walk from a root; an excluded crate is no root
pub record Reached (graph : Graph) (choice : Choice) (named : Option DepKind) (id : List ℕ) : Type 0 where
  pub root : List ℕ
  pub begins : IsRoot graph choice root
  pub steps : List Step
  pub walk : IsWalk root steps id
  pub taken : All (MayBeTaken graph choice named) steps

-- The crates that are checked: those that are reached, also without dev dependencies where these are not included, and
-- also without build dependencies where these are not.
pub record Selected (graph : Graph) (choice : Choice) (include : Include) (id : List ℕ) : Type 0 where
  pub reached : Reached graph choice None id
  pub without_dev : include.dev ≡ false → Reached graph choice (Some Dev) id
  pub without_build : include.build ≡ false → Reached graph choice (Some Build) id
