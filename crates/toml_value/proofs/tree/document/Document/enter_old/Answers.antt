use Rattle.std.proofs.Common.{◌≡◌, ℕ, Some, Ok, option_map, refl, sym, ap, ◌∙◌, arith}
use Rattle.toml_subset.specs.Tables.{Node, Branches}
use Rattle.toml_subset.specs.declared.string.Key.{Key}
use Rattle.toml_subset.specs.frames.Levels.{found_at, hole, header_branches, branches_with_node, size}
use Rattle.toml_subset.proofs.frames.Levels.{old_room}
use Rattle.toml_value.specs.AroundViews.{around_view, opened_view}
use Rattle.toml_value.specs.BranchViews.{branches_view}
use Rattle.toml_value.specs.LevelViews.{cursor_view}
use Rattle.toml_value.specs.declared.tree.Branches.{Branches as BranchesOf}
use Rattle.toml_value.proofs.LevelLemmas.{sized, size_replaced, place_within, found_there, redefined_ok, old_stops, into_is_old, further_is}
use Rattle.toml_value.proofs.tree.document.Document.enter_old.Goals as goal

found_in : (key : Key) (table : BranchesOf) (seen : Branches) (place : ℕ) → branches_view table ≡ seen → option_map (λ (f : ℕ × Node). f.0) (found_at key seen) ≡ Some place
    → option_map (λ (f : ℕ × Node). f.0) (found_at key (branches_view table)) ≡ Some place
found_in key table seen place same e = ap (λ b. option_map (λ (f : ℕ × Node). f.0) (found_at key b)) same ∙ e

pub take_opened-requires-clause-found : goal.take_opened-requires-clause-found
take_opened-requires-clause-found c =
    found_in c.args.key.now c.into_root-table.result (cursor_view c.args.self).here c.args.place c.into_root-table.ensures.view c.requires.found

pub invariant_of-level-clause-inside : goal.invariant_of-level-clause-inside
invariant_of-level-clause-inside c =
    let table = c.into_root-table.result in
    let key = c.args.key.now in
    let inside = place_within table c.into_root-table.ensures.whole key c.args.place
    (found_in key table (cursor_view c.args.self).here c.args.place c.into_root-table.ensures.view c.requires.found) in
    let old = sized table c.into_root-table.ensures.whole in
    let new = sized c.take_opened.new.table c.take_opened.ensures.whole in
    let same = ap size c.take_opened.ensures.left ∙ size_replaced c.args.place (hole key) (branches_view table) in
    omega arith

pub further-requires-clause-shallow : goal.further-requires-clause-shallow
further-requires-clause-shallow c =
    let key = c.args.key.now in
    let here = (cursor_view c.args.self).here in
    let there = found_there key here c.args.place c.requires.found in
    let is = redefined_ok key (header_branches c.args.part there.0) (around_view c.in-Ok.kind, branches_view c.in-Ok.inner)
    (c.in-Ok.ensures.opened there.0 (ap (found_at key) c.into_root-table.ensures.view ∙ there.1)) in
    let room = old_room c.args.part key (cursor_view c.args.self) c.args.place there.0 (around_view c.in-Ok.kind, branches_view c.in-Ok.inner) c.requires.shallow there.1 is in
    omega arith

pub returns-in_ok-document-in-Ok : goal.returns-in_ok-document-in-Ok
returns-in_ok-document-in-Ok c =
    let key = c.args.key.now in
    let here = (cursor_view c.args.self).here in
    let there = found_there key here c.args.place c.requires.found in
    let is = redefined_ok key (header_branches c.args.part there.0) (around_view c.in-Ok.kind, branches_view c.in-Ok.inner)
    (c.in-Ok.ensures.opened there.0 (ap (found_at key) c.into_root-table.ensures.view ∙ there.1)) in
    into_is_old c.args.part key (cursor_view c.args.self) c.args.place there.0 (Some (around_view c.in-Ok.kind, branches_view c.in-Ok.inner)) there.1 (sym is)
    ∙ ap Ok (sym (further_is (cursor_view c.args.self) (cursor_view c.in_ok-document-in-Ok.document) (branches_with_node c.args.place (hole key) here) (branches_view c.take_opened.new.table)
    c.args.place c.args.place (around_view c.in-Ok.kind) (branches_view c.in-Ok.inner)
    (c.take_opened.ensures.left ∙ ap (branches_with_node c.args.place (hole key)) c.into_root-table.ensures.view) refl c.in_ok-document-in-Ok.ensures))

pub returns-in-Err : goal.returns-in-Err
returns-in-Err c =
    let key = c.args.key.now in
    let there = found_there key (cursor_view c.args.self).here c.args.place c.requires.found in
    old_stops (λ found. opened_view found) (λ d. cursor_view d) c.args.part key (cursor_view c.args.self) c.args.place there.0 c.in-Err.error there.1
    (c.in-Err.ensures.opened there.0 (ap (found_at key) c.into_root-table.ensures.view ∙ there.1))
