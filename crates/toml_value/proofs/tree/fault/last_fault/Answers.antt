use Rattle.std.proofs.Common.{sym, ◌∙◌}
use Rattle.toml_value.specs.BranchViews.{branches_view}
use Rattle.toml_value.proofs.PutLemmas.{last_fault}
use Rattle.toml_value.proofs.tree.fault.last_fault.Goals as goal

pub returns-in-Some : goal.returns-in-Some
returns-in-Some c = c.refuse.ensures ∙ sym (last_fault c.args.key.now (branches_view c.args.table.now) 0 _ c.in-Some.ensures.value)

pub returns-in-None : goal.returns-in-None
returns-in-None c = sym (last_fault c.args.key.now (branches_view c.args.table.now) 0 _ c.in-None.ensures.value)
