use Rattle.std.proofs.Common.{◌≡◌, ◌∷◌, [], ◌++◌, ◌+◌, List, map, take, refl, sym, ap, subst, ◌∙◌}
use Rattle.std.proofs.lemmas.List.{take_more}
use Rattle.graph_core.specs.Krate.{CrateRecord}
use Rattle.graph_core.specs.selection.Listed.{record_behind}
use Rattle.gather_license.proofs.files.CallLemmas.{on_err}
use Rattle.gather_core.proofs.GatheredLemmas.{map_push}
use Rattle.gather_core.proofs.TurnCalls.{front_next}
use Rattle.run_found.specs.Hearing.{tree_seen}
use Rattle.run_notice.specs.Own.{HaveOwnTexts}
use Rattle.run_notice.proofs.OwnLemmas.{cut_behind, cut_next, front_so_far, have_more, have_none}
use Rattle.run_notice.proofs.own.own_of_crates.Goals as goal

pub crates-init : goal.crates-init
crates-init g c =
    let told = g.T.Tree.content c.args.tree.now in
    let count = g.T.Tree.fault_count c.args.tree.now in
    let calls = g.T.Tree.trace c.args.tree.now in
    subst (HaveOwnTexts [] (tree_seen told told count count calls calls)) (sym c.new-texts.ensures) (have_none told count calls)

pub crates-preserved : goal.crates-preserved
crates-preserved g c =
    let place = c.crates.krate-index in
    let krates = c.args.krates.now in
    let item = c.krate-item.result in
    let so_far = map record_behind (take place krates) in
    let tree = tree_seen (g.T.Tree.content c.args.tree.now) (g.T.Tree.content c.own_texts.new.tree) (g.T.Tree.fault_count c.args.tree.now) (g.T.Tree.fault_count c.own_texts.new.tree)
    (g.T.Tree.trace c.args.tree.now) (g.T.Tree.trace c.own_texts.new.tree) in
    let more : map record_behind (take (place + 1) krates) ≡ so_far ++ record_behind item ∷ [] =
    ap (map record_behind) (take_more krates place item c.crates-test.true ∙ ap (λ one. take place krates ++ one ∷ []) (sym c.krate-item.is)) ∙ map_push record_behind (take place krates) item in
    let pushed = c.in_ok-push.ensures.ok ∙ ap (λ id. c.crates.texts ++ record { id = id; own = c.in_ok-own.own } ∷ []) (c.in_ok-id.ensures ∙ c.as_str.ensures) in
    subst (λ (crates : List CrateRecord). HaveOwnTexts crates tree c.push.new.self) (sym more)
    (subst (HaveOwnTexts (so_far ++ record_behind item ∷ []) tree) (sym pushed) (have_more so_far (record_behind item) c.crates.texts c.crates.invariant c.in_ok-own.own c.in_ok-own.ensures.own))

pub returns-in_err-id-clause-cut : goal.returns-in_err-id-clause-cut
returns-in_err-id-clause-cut g c =
    let place = c.crates.krate-index in
    let krates = c.args.krates.now in
    on_err c.from_residual.result _ (cut_behind (map record_behind (take place krates)) (map record_behind krates) c.crates.texts c.crates.invariant (front_so_far record_behind krates place))

pub returns-in_err-own-clause-cut : goal.returns-in_err-own-clause-cut
returns-in_err-own-clause-cut g c =
    let place = c.crates.krate-index in
    let krates = c.args.krates.now in
    let item = c.krate-item.result in
    let so_far = map record_behind (take place krates) in
    on_err c.from_residual-in_err-own.result _
    (cut_next so_far (record_behind item) c.crates.texts c.crates.invariant (map record_behind krates)
    (front_next record_behind krates place item so_far refl (take_more krates place item c.crates-test.true ∙ ap (λ one. take place krates ++ one ∷ []) (sym c.krate-item.is))) c.in_err-own.ensures.no_memory)

pub returns-in_err-push-clause-cut : goal.returns-in_err-push-clause-cut
returns-in_err-push-clause-cut g c =
    let place = c.crates.krate-index in
    let krates = c.args.krates.now in
    let item = c.krate-item.result in
    let so_far = map record_behind (take place krates) in
    on_err c.from_residual-in_err-push.result _
    (cut_behind (so_far ++ record_behind item ∷ []) (map record_behind krates) _ (have_more so_far (record_behind item) c.crates.texts c.crates.invariant c.in_ok-own.own c.in_ok-own.ensures.own)
    (front_next record_behind krates place item so_far refl (take_more krates place item c.crates-test.true ∙ ap (λ one. take place krates ++ one ∷ []) (sym c.krate-item.is))))
