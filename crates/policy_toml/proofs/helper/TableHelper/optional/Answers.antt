use Rattle.std.proofs.Common.{Some, sym, ap, ◌∙◌}
use Rattle.policy_toml.specs.HelperState.{state_of, read_at, given_value, faults_of}
use Rattle.toml_value.specs.Views.{value_view}
use Rattle.policy_toml.proofs.HelperLemmas.{read_at-taken, read_at-missing, after_nothing, after_faults}
use Rattle.policy_toml.proofs.helper.TableHelper.optional.Goals as goal

pub returns-in-Ok-clause-read : goal.returns-in-Ok-clause-read
returns-in-Ok-clause-read g c =
    let found = read_at-taken c.args.name.now (g.T.Deserialize.reads c.args.context.now) (state_of c.args.self.now) c.in-Some.field-0-0 (value_view c.in-Some.value) c.in-Some.ensures.taken in
    sym (ap given_value (found ∙ ap Some c.in-Ok.ensures))

pub returns-in-Ok-clause-after : goal.returns-in-Ok-clause-after
returns-in-Ok-clause-after g c =
    let found = read_at-taken c.args.name.now (g.T.Deserialize.reads c.args.context.now) (state_of c.args.self.now) c.in-Some.field-0-0 (value_view c.in-Some.value) c.in-Some.ensures.taken in
    c.take.ensures.after ∙ after_nothing c.args.name.now (read_at c.args.name.now (g.T.Deserialize.reads c.args.context.now) (state_of c.args.self.now)) (state_of c.args.self.now) (ap faults_of (found ∙ ap Some c.in-Ok.ensures))

pub returns-in-Err-Faults-clause-read : goal.returns-in-Err-Faults-clause-read
returns-in-Err-Faults-clause-read g c =
    let refused = rw c.in-Err-Faults.field-0-is at c.in-Err-Faults.ensures in
    let found = read_at-taken c.args.name.now (g.T.Deserialize.reads c.args.context.now) (state_of c.args.self.now) c.in-Some.field-0-0 (value_view c.in-Some.value) c.in-Some.ensures.taken in
    sym (ap given_value (found ∙ ap Some refused.0))

pub returns-in-Err-Faults-clause-after : goal.returns-in-Err-Faults-clause-after
returns-in-Err-Faults-clause-after g c =
    let refused = rw c.in-Err-Faults.field-0-is at c.in-Err-Faults.ensures in
    let found = read_at-taken c.args.name.now (g.T.Deserialize.reads c.args.context.now) (state_of c.args.self.now) c.in-Some.field-0-0 (value_view c.in-Some.value) c.in-Some.ensures.taken in
    after_faults c.args.name.now (read_at c.args.name.now (g.T.Deserialize.reads c.args.context.now) (state_of c.args.self.now)) (state_of c.args.self.now) (state_of c.take.new.self) c.in-Err-Faults.faults c.append.new.self
    (ap faults_of (found ∙ ap Some refused.0)) c.take.ensures.after c.in_ok-append-in-Err-Faults.ensures.ok

pub returns-clause-read : goal.returns-clause-read
returns-clause-read g c =
    sym (ap given_value (read_at-missing c.args.name.now (g.T.Deserialize.reads c.args.context.now) (state_of c.args.self.now) c.in-None.ensures.taken))

pub returns-clause-after : goal.returns-clause-after
returns-clause-after g c =
    let missed = read_at-missing c.args.name.now (g.T.Deserialize.reads c.args.context.now) (state_of c.args.self.now) c.in-None.ensures.taken in
    c.take.ensures.after ∙ after_nothing c.args.name.now (read_at c.args.name.now (g.T.Deserialize.reads c.args.context.now) (state_of c.args.self.now)) (state_of c.args.self.now) (ap faults_of missed)
