-- Packs of findings.
use Rattle.std.specs.Prelude.{ℕ, List, [], ◌∷◌, Option, Some, None}
use Rattle.diag_core.specs.declared.pack.Check.{Check}
use Rattle.diag_core.specs.declared.pack.Diag.{Diag}
use Rattle.diag_core.specs.declared.pack.GraphNode.{GraphNode}

-- what a pack holds: the check, the crate that its findings are about, where there is one, and the findings
pub record PackOf : Type 0 where
  pub check : Check
  pub kid : Option (List ℕ)
  pub findings : List Diag

-- the nodes, or that of the crate alone where there are none
abbrev pub or_crate : Option (List ℕ) → List GraphNode → List GraphNode
or_crate (Some kid) [] = record { kid = kid; feature = None } ∷ []
or_crate (Some kid) (node ∷ nodes) = node ∷ nodes
or_crate None nodes = nodes

-- the finding, which is about the crate where it is about none
abbrev pub with_crate : Option (List ℕ) → Diag → Diag
with_crate kid finding = record finding { graph_nodes = or_crate kid finding.graph_nodes }
