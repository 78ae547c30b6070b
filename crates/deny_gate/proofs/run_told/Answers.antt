-- The run ended where its own clause says, and behind that its help was printed.
use Rattle.std.proofs.Common.{◌≡◌, subst, sym, Bool}
use Rattle.tree_core.proofs.MadeLemmas.{some_joined}
use Rattle.refusal_help.specs.Told.{told_between}
use Rattle.deny_gate.specs.Behind.{TellsBehind, is_whole}
use Rattle.deny_gate.proofs.run_told.Goals as goal

pub returns-clause-ran : goal.returns-clause-ran
returns-clause-ran g c =
    let told = told_between (g.T.Tree.trace c.run_started-outcome.new.tree) (g.T.Tree.trace c.tell_behind.new.tree)
    (g.E.Sink.written c.run_started-outcome.new.err) (g.E.Sink.written c.tell_behind.new.err) (g.E.Sink.fault_count c.run_started-outcome.new.err) (g.E.Sink.fault_count c.tell_behind.new.err) in
    let whole : is_whole (g.E.Sink.fault_count c.args.err.now) (g.E.Sink.fault_count c.run_started-outcome.new.err) ≡ c.is_whole-is_whole.result = cc in
    record {
      content = g.T.Tree.content c.run_started-outcome.new.tree;
      count = g.T.Tree.fault_count c.run_started-outcome.new.tree;
      calls = g.T.Tree.trace c.run_started-outcome.new.tree;
      written = g.E.Sink.written c.run_started-outcome.new.err;
      faults = g.E.Sink.fault_count c.run_started-outcome.new.err;
      ran = c.run_started-outcome.ensures;
      told = subst (λ (is : Bool). TellsBehind is c.run_started-outcome.result.request told c.run_started-outcome.result.ended) (sym whole) c.tell_behind.ensures.told;
      made = c.tell_behind.ensures.made;
      later = c.tell_behind.ensures.later;
    }

pub returns-clause-made : goal.returns-clause-made
returns-clause-made g c = some_joined c.run_started-outcome.ensures.run.later.made c.tell_behind.ensures.made

pub returns-clause-status : goal.returns-clause-status
returns-clause-status g c = c.run_started-outcome.ensures.run.status
