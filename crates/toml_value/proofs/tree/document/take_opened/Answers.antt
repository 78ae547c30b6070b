use Rattle.std.proofs.Common.{◌≡◌, ℕ, Err, option_map, sym, ap, ◌∙◌}
use Rattle.toml_subset.specs.Tables.{Node}
use Rattle.toml_subset.proofs.Law.Basics.{is_some}
use Rattle.toml_subset.specs.frames.Levels.{header_branches}
use Rattle.toml_value.specs.AroundViews.{opened_view, or_redefined}
use Rattle.toml_value.specs.BranchViews.{node_view, is_whole_node}
use Rattle.toml_value.proofs.LevelLemmas.{place_within, node_found}
use Rattle.toml_value.proofs.TreeLemmas.{opened_whole, whole_at}
use Rattle.toml_value.proofs.tree.document.take_opened.Goals as goal

pub take-node-requires-clause-inside : goal.take-node-requires-clause-inside
take-node-requires-clause-inside c = place_within c.args.table.now c.requires.whole c.args.key.now c.args.place c.requires.found

pub opened-requires : goal.opened-requires
opened-requires c =
    let table = c.args.table.now in
    let whole = opened_whole table c.requires.whole in
    let inside = place_within table c.requires.whole c.args.key.now c.args.place c.requires.found in
    ap (λ n. is_whole_node n) c.take-node.ensures.value ∙ whole_at table.nodes.items c.args.place c.take-node.result whole.all inside

pub returns-in-Some-clause-opened : goal.returns-in-Some-clause-opened
returns-in-Some-clause-opened c node there =
    let key = c.args.key.now in
    let seen = node_found c.args.table.now c.requires.whole key c.args.place c.take-node.result c.requires.found c.take-node.ensures.value in
    let is : node_view c.take-node.result ≡ node =
    ap (λ (f : ℕ × Node). f.1) (is_some (c.args.place, node_view c.take-node.result) (c.args.place, node) (sym seen ∙ there)) in
    ap (λ n. or_redefined key (header_branches c.args.part n)) (sym is)
    ∙ ap (or_redefined key) (sym c.in_ok-seen.ensures.view ∙ ap (option_map opened_view) c.in-Some.is)

pub returns-in-None-clause-opened : goal.returns-in-None-clause-opened
returns-in-None-clause-opened c node there =
    let key = c.args.key.now in
    let seen = node_found c.args.table.now c.requires.whole key c.args.place c.take-node.result c.requires.found c.take-node.ensures.value in
    let is : node_view c.take-node.result ≡ node =
    ap (λ (f : ℕ × Node). f.1) (is_some (c.args.place, node_view c.take-node.result) (c.args.place, node) (sym seen ∙ there)) in
    ap (λ n. or_redefined key (header_branches c.args.part n)) (sym is)
    ∙ ap (or_redefined key) (sym c.in_ok-seen.ensures.view ∙ ap (option_map opened_view) c.in-None.is)
    ∙ ap (λ f. Err f) (sym c.refuse.ensures)
