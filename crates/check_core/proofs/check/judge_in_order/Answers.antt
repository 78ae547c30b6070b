use Rattle.std.proofs.Common.{◌≡◌, ◌∙◌, ap, sym, subst, List, [], ◌∷◌, ◌++◌, append_assoc, arith}
use Rattle.std.specs.Vec.Iter.{into_iter_items}
use Rattle.diag_core.specs.declared.overrides.ErrorSink.{ErrorSink}
use Rattle.gather_core.specs.declared.summary.KrateLicense.{KrateLicense}
use Rattle.policy_core.specs.valid.View.{policy_of}
use Rattle.check_core.specs.declared.report.CrateReport.{CrateReport}
use Rattle.check_core.specs.Check.{HasFront}
use Rattle.check_core.proofs.CheckLemmas.{SoFar, has_front, one_more}
use Rattle.check_core.proofs.SinkLemmas.{of_error}
use Rattle.check_core.proofs.StepLemmas.{bounded_after, bounded_next}
use Rattle.check_core.proofs.check.judge_in_order.Goals as goal

pub licenses-preserved : goal.licenses-preserved
licenses-preserved g c =
    let before = c.licenses.invariant in
    let policy = c.args.policy.now in
    let licenses = c.args.licenses in
    let front = c.licenses.yielded in
    let rest = into_iter_items c.next.new.self in
    let license = c.in-Some.license in
    let judged = c.in_ok-judged.judged in
    let told = c.in_ok-judged.ensures in
    let flags = c.judge.new.self.flags in
    let sink = c.push-in-licenses.new.self in
    let whole : front ++ license ∷ rest ≡ licenses = ap (λ (l : List KrateLicense). front ++ l) (sym c.in-Some.ensures.steps.0) ∙ before.whole in
    let more =
    one_more policy front c.licenses.reports c.licenses.checker.flags c.args.sink.now c.licenses.sink license judged.report judged.pack flags sink
    before.so_far told.verdict told.report told.pack told.hits c.in_ok-push-2.ensures.ok in
    record {
      whole = append_assoc front (license ∷ []) rest ∙ whole;
      nodes = told.nodes ∙ before.nodes;
      families = told.families ∙ before.families;
      private = told.private ∙ before.private;
      so_far = subst (λ (reports : List CrateReport). SoFar policy (front ++ license ∷ []) reports flags c.args.sink.now sink) (sym c.in_ok-push.ensures.ok) more;
      steps = let early = before.steps in let late = told.steps in omega arith;
      bound = bounded_next (policy_of policy) licenses front rest license c.args.steps.now c.licenses.steps c.judge.new.steps whole told.bound before.bound;
    }

pub returns-in_err-judged-clause-bound : goal.returns-in_err-judged-clause-bound
returns-in_err-judged-clause-bound g c =
    let front = c.licenses.yielded in
    let whole = ap (λ (l : List KrateLicense). front ++ l) (sym c.in-Some.ensures.steps.0) ∙ c.licenses.invariant.whole in
    bounded_after (policy_of c.args.policy.now) c.args.licenses front (into_iter_items c.next.new.self) c.in-Some.license c.args.steps.now c.licenses.steps c.judge.new.steps
    whole c.judge.ensures.bound c.licenses.invariant.bound

pub returns-in_err-push-clause-bound : goal.returns-in_err-push-clause-bound
returns-in_err-push-clause-bound g c =
    let front = c.licenses.yielded in
    let whole = ap (λ (l : List KrateLicense). front ++ l) (sym c.in-Some.ensures.steps.0) ∙ c.licenses.invariant.whole in
    bounded_after (policy_of c.args.policy.now) c.args.licenses front (into_iter_items c.next.new.self) c.in-Some.license c.args.steps.now c.licenses.steps c.judge.new.steps
    whole c.judge.ensures.bound c.licenses.invariant.bound

pub returns-in_err-push-2-clause-bound : goal.returns-in_err-push-2-clause-bound
returns-in_err-push-2-clause-bound g c =
    let front = c.licenses.yielded in
    let whole = ap (λ (l : List KrateLicense). front ++ l) (sym c.in-Some.ensures.steps.0) ∙ c.licenses.invariant.whole in
    bounded_after (policy_of c.args.policy.now) c.args.licenses front (into_iter_items c.next.new.self) c.in-Some.license c.args.steps.now c.licenses.steps c.judge.new.steps
    whole c.judge.ensures.bound c.licenses.invariant.bound

pub returns-in_err-push-clause-front : goal.returns-in_err-push-clause-front
returns-in_err-push-clause-front g c =
    of_error c.from_residual-in_err-push.result _
    (has_front c.args.policy.now c.args.licenses c.licenses.yielded (into_iter_items c.licenses.license-iterator) c.licenses.reports c.licenses.checker.flags
    c.args.sink.now c.licenses.sink c.licenses.invariant.whole c.licenses.invariant.so_far)

pub returns-in_err-push-2-clause-front : goal.returns-in_err-push-2-clause-front
returns-in_err-push-2-clause-front g c =
    of_error c.from_residual-in_err-push-2.result _
    (subst (λ (sink : ErrorSink). HasFront (policy_of c.args.policy.now) c.args.licenses c.args.sink.now sink) (sym c.in_err-push-2.ensures.err)
    (has_front c.args.policy.now c.args.licenses c.licenses.yielded (into_iter_items c.licenses.license-iterator) c.licenses.reports c.licenses.checker.flags
    c.args.sink.now c.licenses.sink c.licenses.invariant.whole c.licenses.invariant.so_far))
