use Rattle.std.proofs.Common.{◌≡◌, ◌++◌, append_assoc, Some, length, ap, sym, arith, ◌∙◌}
use Rattle.std.specs.List.{flat_map}
use Rattle.std.specs.Option.{option_copied}
use Rattle.deny_text.specs.Path.{ancestors_from}
use Rattle.tree_core.proofs.MadeLemmas.{some-later, some_joined}
use Rattle.tree_core.specs.texts.Search.{names_sought, paths_in_folder}
use Rattle.tree_core.proofs.texts.SearchLemmas.{fewer_above, handed, none_behind, paths_from, some_behind, until_behind}
use Rattle.tree_core.proofs.texts.search.find_upwards.Goals as goal

pub folders-smaller : goal.folders-smaller
folders-smaller g c =
    let here : length (ancestors_from (option_copied c.folders.folder)) ≡ length (ancestors_from (Some c.in-Some.here.now)) =
    ap (λ folder. length (ancestors_from (option_copied folder))) c.in-Some.is in
    let above = ap (λ folder. length (ancestors_from folder)) c.parent-folder-in-Some.ensures in
    let fewer = fewer_above c.in-Some.here.now in
    omega arith

pub folders-preserved : goal.folders-preserved
folders-preserved g c =
    let before = c.folders.invariant.0 in
    let risen = c.folders.invariant.1 in
    let later = some-later c.in_ok-found.ensures.made in (
      omega arith,
      omega arith,
      (
        c.folders.invariant.2.0 ++ paths_in_folder (names_sought c.args.sought) c.in-Some.here.now,
        (
          c.folders.invariant.2.1.0
              ∙ ap (λ folder. c.folders.invariant.2.0 ++ flat_map (paths_in_folder (names_sought c.args.sought)) (ancestors_from folder)) (ap option_copied c.in-Some.is)
              ∙ ap (λ paths. c.folders.invariant.2.0 ++ paths) (paths_from (names_sought c.args.sought) c.in-Some.here.now)
              ∙ sym (append_assoc c.folders.invariant.2.0 (paths_in_folder (names_sought c.args.sought) c.in-Some.here.now) _)
              ∙ ap (λ folder. c.folders.invariant.2.0 ++ paths_in_folder (names_sought c.args.sought) c.in-Some.here.now ++ flat_map (paths_in_folder (names_sought c.args.sought)) (ancestors_from folder)) (sym c.parent-folder-in-Some.ensures),
          none_behind _ _ _ c.folders.invariant.2.0 _ c.in_ok-found.found (sym c.is_some.ensures ∙ c.if-is_some.false) c.folders.invariant.2.1.1 c.in_ok-found.ensures.looked,
        ),
      ),
      some_joined c.folders.invariant.3 c.in_ok-found.ensures.made,
    )

pub returns-then-is_some-clause-looked : goal.returns-then-is_some-clause-looked
returns-then-is_some-clause-looked g c =
    some_behind _ _ _ _ c.folders.invariant.2.0 _ _ c.in_ok-found.found (sym c.is_some.ensures ∙ c.if-is_some.true) c.folders.invariant.2.1.1
    (c.folders.invariant.2.1.0
    ∙ ap (λ folder. c.folders.invariant.2.0 ++ flat_map (paths_in_folder (names_sought c.args.sought)) (ancestors_from folder)) (ap option_copied c.in-Some.is)
    ∙ ap (λ paths. c.folders.invariant.2.0 ++ paths) (paths_from (names_sought c.args.sought) c.in-Some.here.now))
    c.in_ok-found.ensures.looked

pub returns-then-is_some-clause-made : goal.returns-then-is_some-clause-made
returns-then-is_some-clause-made g c = some_joined c.folders.invariant.3 c.in_ok-found.ensures.made

pub returns-in_err-found-clause-made : goal.returns-in_err-found-clause-made
returns-in_err-found-clause-made g c = some_joined c.folders.invariant.3 c.in_err-found.ensures.made

pub returns-in_err-found-clause-given_up : goal.returns-in_err-found-clause-given_up
returns-in_err-found-clause-given_up g c =
    handed c.from_residual.result c.in_err-found.field-0.0 _ c.from_residual.ensures.1
    (until_behind _ _ _ _ c.folders.invariant.2.0 _ _ c.in_err-found.field-0.0 c.folders.invariant.2.1.1
    (c.folders.invariant.2.1.0
    ∙ ap (λ folder. c.folders.invariant.2.0 ++ flat_map (paths_in_folder (names_sought c.args.sought)) (ancestors_from folder)) (ap option_copied c.in-Some.is)
    ∙ ap (λ paths. c.folders.invariant.2.0 ++ paths) (paths_from (names_sought c.args.sought) c.in-Some.here.now))
    c.in_err-found.ensures.given_up)
