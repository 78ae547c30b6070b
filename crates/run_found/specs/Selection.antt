-- The crates that a request and its policy select.
use Rattle.std.specs.Prelude.{List}
use Rattle.graph_core.specs.Krate.{CrateRecord}
use Rattle.graph_core.specs.Metadata.{Graph}
use Rattle.graph_core.specs.declared.selection.selection.Include.{Include}
use Rattle.policy_core.specs.Policy.{PolicyFound}
use Rattle.gather_core.specs.Gathered.{include_of}

-- what a request asks about: the policy, the graph of the metadata, and the crates of it that are checked or listed
pub record PolicyAndCrates : Type 0 where
  pub policy : PolicyFound
  pub graph : Graph
  pub crates : List CrateRecord

-- whether crates are checked that only dev dependencies lead to, and those that only build dependencies lead to
abbrev pub included_in : PolicyFound → Include
included_in policy = include_of policy.licenses
