use Rattle.std.proofs.Common.{◌≡◌, ◌∙◌, List, ap, subst}
use Rattle.std.proofs.lemmas.Result.{IfOk-weaker, on_err_weaker}
use Rattle.std.specs.List.{fold}
use Rattle.graph_core.specs.Krate.{record_of}
use Rattle.policy_parts.specs.spec.Index.{matching_places}
use Rattle.gather_license.specs.files.Calls.{IsFront}
use Rattle.gather_license.specs.files.Steps.{with_path}
use Rattle.gather_license.specs.files.View.{paths_read}
use Rattle.gather_license.proofs.files.CallLemmas.{front_itself, front_looks, goes_itself, on_err, starves_as, starves_behind}
use Rattle.gather_core.specs.Exceptions.{ExceptionEntry, ExceptionRules, exception_specs, holding_at, looked_at, named_by_each}
use Rattle.gather_core.proofs.ExceptionLemmas.{holding_each, looked_each}
use Rattle.gather_core.proofs.exceptions.ExceptionIndex.each.Goals as goal

pub returns-clause-places : goal.returns-clause-places
returns-clause-places g c =
    let entries = c.args.self.now.entries in
    let krate = record_of c.args.krate.now in
    let kept = ap (λ (rules : ExceptionRules). rules.entries) c.self.view_is in
    let first : c.deref-2.result.now ≡ entries = c.deref-2.ensures.value ∙ kept in
    let places : c.items.result.now ≡ matching_places (exception_specs entries) krate =
    c.items.ensures ∙ c.in_ok-places.ensures ∙ ap (λ (all : List ExceptionEntry). matching_places (exception_specs all) krate) (c.deref.ensures.value ∙ kept) in
    IfOk-weaker c.holding.result _ _
    (λ counted is known_reads agrees.
    is known_reads agrees ∙ ap (λ (all : List ExceptionEntry). holding_at known_reads all c.items.result.now) first ∙ ap (holding_at known_reads entries) places ∙ holding_each krate known_reads entries)
    c.holding.ensures.places

pub returns-clause-paths : goal.returns-clause-paths
returns-clause-paths g c =
    let entries = c.args.self.now.entries in
    let krate = record_of c.args.krate.now in
    let kept = ap (λ (rules : ExceptionRules). rules.entries) c.self.view_is in
    let first : c.deref-2.result.now ≡ entries = c.deref-2.ensures.value ∙ kept in
    let places : c.items.result.now ≡ matching_places (exception_specs entries) krate =
    c.items.ensures ∙ c.in_ok-places.ensures ∙ ap (λ (all : List ExceptionEntry). matching_places (exception_specs all) krate) (c.deref.ensures.value ∙ kept) in
    let start = paths_read c.args.pack.reads in
    IfOk-weaker c.holding.result _ _
    (λ counted is known_reads agrees.
    is known_reads agrees
    ∙ ap (fold with_path start)
    (ap (λ (all : List ExceptionEntry). looked_at known_reads all c.items.result.now) first ∙ ap (looked_at known_reads entries) places ∙ looked_each krate known_reads entries))
    c.holding.ensures.paths

pub returns-clause-no_memory : goal.returns-clause-no_memory
returns-clause-no_memory g c =
    let entries = c.args.self.now.entries in
    let krate = record_of c.args.krate.now in
    let kept = ap (λ (rules : ExceptionRules). rules.entries) c.self.view_is in
    let first : c.deref-2.result.now ≡ entries = c.deref-2.ensures.value ∙ kept in
    let places : c.items.result.now ≡ matching_places (exception_specs entries) krate =
    c.items.ensures ∙ c.in_ok-places.ensures ∙ ap (λ (all : List ExceptionEntry). matching_places (exception_specs all) krate) (c.deref.ensures.value ∙ kept) in
    let start = paths_read c.args.pack.reads in
    let all = c.deref-2.result.now in
    let those = c.items.result.now in
    on_err_weaker c.holding.result
    (λ starves. starves_as c.args.pack (λ known_reads. fold with_path start (looked_at known_reads all those)) (λ known_reads. fold with_path start (named_by_each entries krate known_reads)) starves
    (λ known_reads.
    subst (IsFront (fold with_path start (looked_at known_reads all those)))
    (ap (fold with_path start) (ap (λ (all : List ExceptionEntry). looked_at known_reads all those) first ∙ ap (looked_at known_reads entries) places ∙ looked_each krate known_reads entries))
    (front_itself (fold with_path start (looked_at known_reads all those)))))
    c.holding.ensures.no_memory

pub returns-in_err-places-clause-no_memory : goal.returns-in_err-places-clause-no_memory
returns-in_err-places-clause-no_memory g c =
    let entries = c.args.self.now.entries in
    let krate = record_of c.args.krate.now in
    let pack = c.args.pack in
    let start = paths_read pack.reads in
    let count = g.T.Tree.fault_count c.args.tree.now in
    on_err c.from_residual.result _
    (starves_behind pack pack (λ known_reads. fold with_path start (named_by_each entries krate known_reads)) (goes_itself (g.T.Tree.content c.args.tree.now) count (g.T.Tree.trace c.args.tree.now) pack)
    (λ known_reads agrees. front_looks start (named_by_each entries krate known_reads)))
