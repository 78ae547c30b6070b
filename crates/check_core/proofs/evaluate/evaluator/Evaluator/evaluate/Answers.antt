use Rattle.std.proofs.Common.{◌∙◌, ◌≤◌, ap, [], length, arith, List, Option, false, vec_capacity}
use Rattle.spdx_core.specs.Reading.{postfix}
use Rattle.spdx_core.specs.declared.certificates.verdict.Hit.{Hit}
use Rattle.spdx_core.specs.certificates.Certificates.{has_hit}
use Rattle.spdx_core.specs.certificates.Choices.{is_accepted}
use Rattle.spdx_core.specs.certificates.Stack.{first_of}
use Rattle.policy_core.specs.valid.View.{policy_of}
use Rattle.check_core.specs.evaluate.Answers.{answers_over}
use Rattle.check_core.specs.evaluate.Entries.{entries_of_terms}
use Rattle.check_core.specs.evaluate.Evaluation.{Evaluation, term_hits}
use Rattle.check_core.proofs.evaluate.AnswerLemmas.{answered_whole}
use Rattle.check_core.proofs.evaluate.EvaluationLemmas.{kept_is, seen_as, with_hits}
use Rattle.check_core.proofs.evaluate.RoomLemmas.{few_terms}
use Rattle.check_core.proofs.evaluate.evaluator.Evaluator.evaluate.Goals as goal

pub keep_hits-requires-clause-room : goal.keep_hits-requires-clause-room
keep_hits-requires-clause-room g c =
    let expression = c.args.expression.now in
    let few : length expression.terms ≤ length (postfix expression.tree) = few_terms (length expression.terms) expression.tree c.requirements.ensures.facts.places in
    let asked = ap length c.requirements.ensures.terms in
    let nodes = ap (λ (e : Evaluation). e.nodes) c.self.view_is in
    let room = c.self.invariant.0 in
    omega (arith, c.requires.room)

pub returns-clause-answer : goal.returns-clause-answer
returns-clause-answer g c =
    let expression = c.args.expression.now in
    let kept = c.as_slice.result.now in
    let is = kept_is (policy_of c.args.policy.now) c.args.exceptions.now expression.terms c.requirements.result.now kept
    c.requirements.ensures.terms (c.as_slice.ensures.value ∙ c.keep_hits.ensures.kept) in
    c.is_accepted.ensures.answer
    ∙ ap (λ nodes. first_of false (answers_over (has_hit kept) [] nodes)) c.nodes.ensures.nodes
    ∙ answered_whole (has_hit kept) expression.tree
    ∙ ap (λ (hits : List (Option Hit)). is_accepted (has_hit hits) expression.tree) is

pub returns-clause-evaluator : goal.returns-clause-evaluator
returns-clause-evaluator g c =
    let expression = c.args.expression.now in
    let own = term_hits (policy_of c.args.policy.now) c.args.exceptions.now expression.terms in
    let is = kept_is (policy_of c.args.policy.now) c.args.exceptions.now expression.terms c.requirements.result.now
    c.keep_hits.new.kept.items c.requirements.ensures.terms c.keep_hits.ensures.kept in
    with_hits (seen_as c.self.inside.nodes c.self.inside.index c.self.inside.kept.items (vec_capacity c.self.inside.kept) (vec_capacity c.self.inside.answers))
    c.keep_hits.new.kept.items own (vec_capacity c.keep_hits.new.kept) (vec_capacity c.is_accepted.new.answers) is c.keep_hits.ensures.room c.is_accepted.ensures.room
    ∙ ap (λ (e : Evaluation). record e { hits = own }) c.self.view_is

pub returns-clause-bound : goal.returns-clause-bound
returns-clause-bound g c =
    let are = ap (entries_of_terms (policy_of c.args.policy.now) c.args.exceptions.now) c.requirements.ensures.terms in
    let bound = c.keep_hits.ensures.bound in
    omega arith
