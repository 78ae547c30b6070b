use Rattle.std.proofs.Common.{◌∙◌, map, arith}
use Rattle.std.proofs.lemmas.List.Sums.{sum_by-drop_more}
use Rattle.policy_core.specs.valid.Policy.{granted_licensees}
use Rattle.policy_core.specs.valid.View.{grant_of}
use Rattle.check_core.specs.evaluate.Entries.{entries_in}
use Rattle.check_core.proofs.evaluate.GrantLemmas.{exception_here, no_exception_left, none_of, passed_exception}
use Rattle.check_core.proofs.evaluate.hits.granted_hit.Goals as goal

pub exceptions-preserved : goal.exceptions-preserved
exceptions-preserved g c =
    let grants = map grant_of c.args.policy.now.exceptions in
    let term = c.args.term.now in
    let places = c.args.exceptions.now in
    let place = c.exceptions.exception-index in
    let inside = c.exceptions-test.true in
    let so_far = c.exceptions.invariant in
    let early = so_far.steps in
    let bound = so_far.bound in
    let late = c.exception_hit.ensures.steps in
    let taken = c.exception_hit.ensures.bound in
    let left = sum_by-drop_more (λ one. entries_in (granted_licensees grants one) term) places place 0 inside in
    record {
      hit = passed_exception grants term places place c.exception_hit.result inside c.exception_hit.ensures.hit (none_of c.exception_hit.result c.in_default.not-Some) ∙ so_far.hit;
      steps = omega (arith, early, late);
      bound = omega (arith, bound, taken, left);
    }

pub returns-in-Some-clause-hit : goal.returns-in-Some-clause-hit
returns-in-Some-clause-hit g c =
    exception_here (map grant_of c.args.policy.now.exceptions) c.args.term.now c.args.exceptions.now c.exceptions.exception-index c.exception_hit.result c.in-Some.hit
    c.exceptions-test.true c.exception_hit.ensures.hit c.in-Some.is
    ∙ c.exceptions.invariant.hit

pub returns-in-Some-clause-bound : goal.returns-in-Some-clause-bound
returns-in-Some-clause-bound g c =
    let grants = map grant_of c.args.policy.now.exceptions in
    let bound = c.exceptions.invariant.bound in
    let taken = c.exception_hit.ensures.bound in
    let left = sum_by-drop_more (λ one. entries_in (granted_licensees grants one) c.args.term.now) c.args.exceptions.now c.exceptions.exception-index 0 c.exceptions-test.true in
    omega (arith, bound, taken, left)

pub returns-clause-hit : goal.returns-clause-hit
returns-clause-hit g c =
    no_exception_left (map grant_of c.args.policy.now.exceptions) c.args.term.now c.args.exceptions.now c.exceptions.exception-index c.exceptions-test.false
    ∙ c.exceptions.invariant.hit
