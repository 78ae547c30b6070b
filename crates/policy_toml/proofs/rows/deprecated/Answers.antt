-- What is read is what the entry holds, where there is one that can be read.
use Rattle.std.proofs.Common.{Some, sym, ap, subst, ◌∙◌}
use Rattle.policy_toml.specs.HelperState.{given_value, state_of}
use Rattle.toml_subset.specs.shapes.Shaped.{TellsFaults}
use Rattle.toml_value.specs.Views.{value_view}
use Rattle.policy_toml.proofs.rows.Keys.{read_of_entry}
use Rattle.policy_toml.proofs.rows.deprecated.Goals as goal

pub returns-in-Ok-clause-read : goal.returns-in-Ok-clause-read
returns-in-Ok-clause-read g c =
    sym (ap given_value (read_of_entry c.args.name.now (g.T.Deserialize.reads c.args.context.now) (state_of c.args.table.now) c.in-Some.ensures.taken
    ∙ ap Some c.in-Ok.ensures.read))

pub returns-in-Err-Faults-clause-read : goal.returns-in-Err-Faults-clause-read
returns-in-Err-Faults-clause-read g c =
    let reads = g.T.Deserialize.reads c.args.context.now in
    let told = subst (TellsFaults (reads (value_view c.in-Some.value))) c.in-Err-Faults.field-0-is c.in-Err-Faults.ensures.read in
    sym (ap given_value (read_of_entry c.args.name.now reads (state_of c.args.table.now) c.in-Some.ensures.taken ∙ ap Some told.0))

pub returns-clause-read : goal.returns-clause-read
returns-clause-read g c =
    sym (ap given_value (read_of_entry c.args.name.now (g.T.Deserialize.reads c.args.context.now) (state_of c.args.table.now) c.in-None.ensures.taken))
