use Rattle.std.proofs.Common.{take_all, get_or, ◌∙◌, ◌+◌, ◌++◌, ◌∷◌, [], cond, ℕ, List, refl, sym, ap, ap₂, subst, Bool}
use Rattle.std.specs.List.{fold}
use Rattle.gather_license.specs.files.Calls.{IsFront}
use Rattle.gather_license.specs.files.Steps.{with_path}
use Rattle.gather_license.specs.files.View.{paths_read}
use Rattle.gather_license.proofs.files.CallLemmas.{agrees_before, goes_itself, goes_then, on_err, starves_behind}
use Rattle.gather_core.specs.Exceptions.{holding_at, looked_at}
use Rattle.gather_core.proofs.ExceptionLemmas.{front_places, holding_more, looked_next, starves_holding}
use Rattle.gather_core.proofs.exceptions.holding.Goals as goal

pub places-preserved : goal.places-preserved
places-preserved g c =
    let so_far = c.places.invariant in
    let entries = c.args.entries.now in
    let places = c.args.places.now in
    let i = c.places.place-index in
    let tried = c.in_ok-tried.tried in
    let goes = c.in_ok-tried.ensures.goes in
    record {
      goes_by = goes_then c.args.pack c.places.pack tried.pack so_far.goes_by goes;
      held = λ known_reads agrees.
          let before = agrees_before goes.reads c.places.pack tried.pack known_reads goes.takes agrees in
          c.in_ok-push_where.ensures
          ∙ ap₂ (λ (front : List ℕ) (holds : Bool). front ++ cond holds (get_or places i 0 ∷ []) []) (so_far.held known_reads before)
          (c.in_ok-tried.ensures.holds known_reads agrees)
          ∙ sym (holding_more known_reads entries places i c.places-test.true);
      looked = λ known_reads agrees.
          let before = agrees_before goes.reads c.places.pack tried.pack known_reads goes.takes agrees in
          c.in_ok-tried.ensures.paths known_reads agrees
          ∙ looked_next c.args.pack c.places.pack entries places i c.places-test.true so_far.looked known_reads before;
    }

pub places-init : goal.places-init
places-init g c =
    let count = g.T.Tree.fault_count c.args.tree.now in
    record {
      goes_by = goes_itself (g.T.Tree.content c.args.tree.now) count (g.T.Tree.trace c.args.tree.now) c.args.pack;
      held = λ known_reads agrees. c.new-counted.ensures;
      looked = λ known_reads agrees. refl;
    }

pub returns-in_err-tried-clause-no_memory : goal.returns-in_err-tried-clause-no_memory
returns-in_err-tried-clause-no_memory g c =
    let so_far = c.places.invariant in
    on_err c.from_residual.result _
    (starves_holding c.args.pack c.places.pack c.args.entries.now c.args.places.now c.places.place-index c.places-test.true so_far.looked
    so_far.goes_by c.in_err-tried.ensures.no_memory)

pub returns-in_err-push_where-clause-no_memory : goal.returns-in_err-push_where-clause-no_memory
returns-in_err-push_where-clause-no_memory g c =
    let so_far = c.places.invariant in
    let entries = c.args.entries.now in
    let places = c.args.places.now in
    let i = c.places.place-index in
    let tried = c.in_ok-tried.tried in
    let goes = c.in_ok-tried.ensures.goes in
    let start = paths_read c.args.pack.reads in
    on_err c.from_residual-in_err-push_where.result _
    (starves_behind c.args.pack tried.pack (λ known_reads. fold with_path start (looked_at known_reads entries places)) (goes_then c.args.pack c.places.pack tried.pack so_far.goes_by goes)
    (λ known_reads agrees.
    let before = agrees_before goes.reads c.places.pack tried.pack known_reads goes.takes agrees in
    subst (λ (front : List (List ℕ)). IsFront front (fold with_path start (looked_at known_reads entries places)))
    (sym (c.in_ok-tried.ensures.paths known_reads agrees
    ∙ looked_next c.args.pack c.places.pack entries places i c.places-test.true so_far.looked known_reads before))
    (front_places known_reads entries places start (i + 1))))

pub returns-clause-places : goal.returns-clause-places
returns-clause-places g c = λ known_reads agrees.
    c.places.invariant.held known_reads agrees ∙ ap (holding_at known_reads c.args.entries.now) (take_all c.places.place-index c.args.places.now c.places-test.false)

pub returns-clause-paths : goal.returns-clause-paths
returns-clause-paths g c = λ known_reads agrees.
    c.places.invariant.looked known_reads agrees
    ∙ ap (λ (those : List ℕ). fold with_path (paths_read c.args.pack.reads) (looked_at known_reads c.args.entries.now those)) (take_all c.places.place-index c.args.places.now c.places-test.false)
