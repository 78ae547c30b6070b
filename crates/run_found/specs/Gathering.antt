-- What is answered between a policy and the licences of its crates: what the metadata tells, which crates there are,
-- and where memory was wanting.
use Rattle.std.specs.Prelude.{◌≡◌, ℕ, List, [], ◌∷◌, Option, Some, Result, Ok, Err}
use Rattle.tree_core.specs.Call.{CallAnswer}
use Rattle.tree_core.specs.Trace.{fault_behind}
use Rattle.graph_core.specs.Metadata.{Graph}
use Rattle.tree_core.specs.texts.Heard.{read_of, text_answered}
use Rattle.tree_core.specs.declared.texts.fault.ReadFault.{ReadFault}
use Rattle.graph_core.specs.selection.Choice.{Choice}
use Rattle.graph_core.specs.selection.Roots.{HasRoot}
use Rattle.graph_workspace.specs.Krates.{AreFrom, graph_in}
use Rattle.graph_workspace.specs.declared.error.KratesError.{KratesError}
use Rattle.graph_workspace.specs.declared.error.KratesError.TheVariants as krates
use Rattle.run_found.specs.Hearing.{MadeOn, TreeSeen, read_calls}

-- the metadata that was read tells of this graph, and a root of it is left
pub record TellsGraph (choice : Choice) (tree : TreeSeen) (begun : ℕ) (answer : CallAnswer)
    (graph : Graph) : Type 0 where
  pub heard : Result (List ℕ) ReadFault
  pub hears : text_answered begun (fault_behind tree.count_before answer) answer ≡ Some heard
  pub tells : graph_in heard ≡ Ok graph
  pub rooted : HasRoot graph choice

-- why there are no crates, by what was read of the metadata's file, which was the one call
pub record HasNoCrates (choice : Choice) (tree : TreeSeen) (begun : ℕ) (path : List ℕ)
    (error : KratesError) : Type 0 where
  pub answer : CallAnswer
  pub heard : Result (List ℕ) ReadFault
  pub made : MadeOn tree (read_of path answer ∷ [])
  pub hears : text_answered begun (fault_behind tree.count_before answer) answer ≡ Some heard
  pub from : AreFrom choice heard (Err error)

-- memory was wanting: no call was made, or the metadata's read, whatever was answered
abbrev pub MayReadMetadata : TreeSeen → List ℕ → Type 0
MayReadMetadata tree path = (answer : Option CallAnswer) × MadeOn tree (read_calls (Some path) answer)

-- want of memory, else the refusal that has its cause
abbrev pub NoCratesBy : Choice → TreeSeen → ℕ → List ℕ → KratesError → Type 0
NoCratesBy choice tree begun path krates.Memory = MayReadMetadata tree path
NoCratesBy choice tree begun path error = HasNoCrates choice tree begun path error
