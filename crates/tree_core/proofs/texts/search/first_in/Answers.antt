use Rattle.std.proofs.Common.{◌∷◌, [], ◌++◌, refl, ap, sym, arith, ◌∙◌, drop, take, suc, map}
use Rattle.deny_text.specs.Path.{join_of}
use Rattle.tree_core.specs.Call.{told}
use Rattle.tree_core.proofs.MadeLemmas.{some-later, some_joined}
use Rattle.tree_core.specs.texts.Looked.{look_of, failed_look}
use Rattle.tree_core.specs.texts.Search.{paths_in_folder}
use Rattle.tree_core.specs.declared.texts.search.SearchError.TheVariants.{Memory}
use Rattle.tree_core.proofs.texts.SearchLemmas.{front_until, handed, looked_hit, looked_until, missed_on, split_here, split_names, three_names}
use Rattle.tree_core.proofs.texts.search.first_in.Goals as goal

pub returns-then-branch-clause-looked : goal.returns-then-branch-clause-looked
returns-then-branch-clause-looked g c =
    let names = c.names-name-items.result in
    let folder = c.args.folder.now in
    let here = split_here (join_of folder) (λ name. name.now) names c.names.name-index _ (three_names (λ name. name.now) names c.args.sought c.names.name-index c.names-name-items.ensures c.names-test.true) in
    looked_hit _ _ _ _ _ (paths_in_folder (map (λ name. name.now) (drop (suc c.names.name-index) names)) folder) c.in_ok-path.path c.names.invariant.2
    (c.in_ok-look.ensures.looked
    ∙ ap (λ path. g.T.Tree.trace c.names.tree ++ look_of path (told c.in_ok-look.field-0) ∷ []) c.as_path.ensures
    ∙ ap (λ there. g.T.Tree.trace c.names.tree ++ look_of c.in_ok-path.path (told there) ∷ []) c.if-branch.true)
    (ap (λ those. paths_in_folder those folder) (sym c.names-name-items.ensures) ∙ here
    ∙ ap (λ path. paths_in_folder (map (λ name. name.now) (take c.names.name-index names)) folder ++ path ∷ paths_in_folder (map (λ name. name.now) (drop (suc c.names.name-index) names)) folder) (sym c.in_ok-path.ensures))

pub returns-then-branch-clause-made : goal.returns-then-branch-clause-made
returns-then-branch-clause-made g c = some_joined c.names.invariant.3 c.in_ok-look.ensures.made

pub returns-in_err-look-clause-made : goal.returns-in_err-look-clause-made
returns-in_err-look-clause-made g c = some_joined c.names.invariant.3 c.in_err-look.ensures.made

pub returns-in_err-path-clause-given_up : goal.returns-in_err-path-clause-given_up
returns-in_err-path-clause-given_up g c =
    let names = c.names-name-items.result in
    let folder = c.args.folder.now in
    handed c.from_residual.result Memory _ c.from_residual.ensures.1
    (front_until _ _ _ _ (paths_in_folder (map (λ name. name.now) (drop c.names.name-index names)) folder) Memory refl c.names.invariant.2
    (ap (λ those. paths_in_folder those folder) (sym c.names-name-items.ensures) ∙ split_names folder (λ name. name.now) names c.names.name-index))

pub returns-in_err-look-clause-given_up : goal.returns-in_err-look-clause-given_up
returns-in_err-look-clause-given_up g c =
    let names = c.names-name-items.result in
    let folder = c.args.folder.now in
    let error = c.in_err-look.field-0.0 in
    let here = split_here (join_of folder) (λ name. name.now) names c.names.name-index _ (three_names (λ name. name.now) names c.args.sought c.names.name-index c.names-name-items.ensures c.names-test.true) in
    handed c.from_residual-in_err-look.result error _ c.from_residual-in_err-look.ensures.1
    (looked_until _ _ _ _ _ (paths_in_folder (map (λ name. name.now) (drop (suc c.names.name-index) names)) folder) c.in_ok-path.path error c.names.invariant.2
    (c.in_err-look.ensures.given_up ∙ ap (λ path. g.T.Tree.trace c.names.tree ++ look_of path (failed_look error) ∷ []) c.as_path.ensures)
    (ap (λ those. paths_in_folder those folder) (sym c.names-name-items.ensures) ∙ here
    ∙ ap (λ path. paths_in_folder (map (λ name. name.now) (take c.names.name-index names)) folder ++ path ∷ paths_in_folder (map (λ name. name.now) (drop (suc c.names.name-index) names)) folder) (sym c.in_ok-path.ensures)))

pub names-preserved : goal.names-preserved
names-preserved g c =
    let names = c.names-name-items.result in
    let folder = c.args.folder.now in
    let inside = three_names (λ name. name.now) names c.args.sought c.names.name-index c.names-name-items.ensures c.names-test.true in
    let before = c.names.invariant.0 in
    let risen = c.names.invariant.1 in
    let later = some-later c.in_ok-look.ensures.made in
    let path_is = c.in_ok-path.ensures in (
      omega arith,
      omega arith,
      missed_on _ _ _ folder (λ name. name.now) names c.names.name-index _ c.in_ok-path.path inside path_is c.names.invariant.2
          (c.in_ok-look.ensures.looked
          ∙ ap (λ path. g.T.Tree.trace c.names.tree ++ look_of path (told c.in_ok-look.field-0) ∷ []) c.as_path.ensures
          ∙ ap (λ there. g.T.Tree.trace c.names.tree ++ look_of c.in_ok-path.path (told there) ∷ []) c.if-branch.false),
      some_joined c.names.invariant.3 c.in_ok-look.ensures.made,
    )
