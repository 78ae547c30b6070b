use Rattle.std.proofs.Common.{Some, sym, ap, ◌∙◌}
use Rattle.policy_toml.specs.HelperState.{state_of, read_at, needed_value}
use Rattle.toml_value.specs.Views.{value_view}
use Rattle.policy_toml.proofs.HelperLemmas.{read_at-taken, read_at-missing, needed-refused, needed-missing}
use Rattle.policy_toml.proofs.helper.TableHelper.required.Goals as goal

pub returns-in-Ok-clause-read : goal.returns-in-Ok-clause-read
returns-in-Ok-clause-read g c =
    let found = read_at-taken c.args.name.now (g.T.Deserialize.reads c.args.context.now) (state_of c.args.self.now) c.in-Some.field-0-0 (value_view c.in-Some.value) c.in-Some.ensures.taken in
    ap (needed_value c.args.name.now (state_of c.args.self.now)) (found ∙ ap Some c.in-Ok.ensures)

pub returns-in-Err-Faults-clause-read : goal.returns-in-Err-Faults-clause-read
returns-in-Err-Faults-clause-read g c =
    let refused = rw c.in-Err-Faults.field-0-is at c.in-Err-Faults.ensures in
    let found = read_at-taken c.args.name.now (g.T.Deserialize.reads c.args.context.now) (state_of c.args.self.now) c.in-Some.field-0-0 (value_view c.in-Some.value) c.in-Some.ensures.taken in
    needed-refused c.args.name.now (read_at c.args.name.now (g.T.Deserialize.reads c.args.context.now) (state_of c.args.self.now)) (state_of c.args.self.now) (state_of c.take.new.self) c.in-Err-Faults.faults c.refusal.result
    (found ∙ ap Some refused.0) c.take.ensures.after c.refusal.ensures.told

pub returns-clause-read : goal.returns-clause-read
returns-clause-read g c =
    let missed = read_at-missing c.args.name.now (g.T.Deserialize.reads c.args.context.now) (state_of c.args.self.now) c.in-None.ensures.taken in
    needed-missing c.args.name.now (read_at c.args.name.now (g.T.Deserialize.reads c.args.context.now) (state_of c.args.self.now)) (state_of c.args.self.now) (state_of c.take.new.self) c.in_ok-faults-in-None.faults c.refusal-in-None.result
    missed c.take.ensures.after c.in_ok-faults-in-None.ensures c.refusal-in-None.ensures.told
