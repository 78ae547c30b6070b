use Rattle.std.proofs.Common.{[], ◌∷◌, ◌++◌, Some, map, sym, ap, ◌∙◌}
use Rattle.std.specs.List.{list_all}
use Rattle.toml_subset.specs.Tables.{Branches}
use Rattle.toml_subset.specs.frames.Levels.{behind, header_branches}
use Rattle.toml_subset.specs.declared.frames.part.HeaderPart.TheVariants.{Array}
use Rattle.toml_value.specs.BranchViews.{node_view, branches_view, body_view, is_whole, is_whole_node, is_whole_body}
use Rattle.toml_value.proofs.LevelLemmas.{node_view-tables, is_whole-tables, array_tables, body_view-is, bodies_more, bodies_whole, both_whole}
use Rattle.toml_value.proofs.tree.levels.appended.Goals as goal

pub returns-in_ok-tables-in-Tables-clause-view : goal.returns-in_ok-tables-in-Tables-clause-view
returns-in_ok-tables-in-Tables-clause-view c =
    let t = c.in-Tables in
    let seen = map (λ b. body_view b) t.before.items in
    let more = bodies_more t.before.items c.in_ok-tables-in-Tables.tables.items _ c.in_ok-tables-in-Tables.ensures ∙ ap (λ x. seen ++ x ∷ []) (body_view-is _) in
    let wanted = ap (λ n. header_branches (Array c.args.at) (node_view n)) t.is ∙ ap (header_branches (Array c.args.at)) (node_view-tables t.span t.before t.last t.inner)
    ∙ array_tables t.span t.last c.args.at seen (branches_view t.inner) in
    ap (λ xs. Some (behind t.span xs c.args.at, branches_view c.new.result)) more
    ∙ ap (λ (b : Branches). Some (behind t.span (seen ++ (t.last, branches_view t.inner) ∷ []) c.args.at, b)) c.new.ensures.empty ∙ sym wanted

pub returns-in_ok-tables-in-Tables-clause-around : goal.returns-in_ok-tables-in-Tables-clause-around
returns-in_ok-tables-in-Tables-clause-around c =
    let t = c.in-Tables in
    let whole = both_whole (list_all (λ whole. whole) (map (λ b. is_whole_body b) t.before.items)) (is_whole t.inner)
    (sym (ap (λ n. is_whole_node n) t.is ∙ is_whole-tables t.span t.before t.last t.inner) ∙ c.requires) in
    bodies_whole t.before.items c.in_ok-tables-in-Tables.tables.items _ c.in_ok-tables-in-Tables.ensures whole.0 whole.1
