use Rattle.std.proofs.Common.{map, Some, option_map, sym, ap, ◌∙◌, arith}
use Rattle.std.proofs.lemmas.List.{length-map}
use Rattle.toml_subset.specs.TableFaults.{table_node_at}
use Rattle.toml_value.specs.BranchViews.{node_view, is_whole_node}
use Rattle.toml_value.proofs.TreeLemmas.{branches_view-is, opened_whole, is_found, is_missing, is_within, whole_at, seen-at}
use Rattle.toml_value.proofs.tree.Branches.at.Goals as goal

pub returns-in_err-place-clause-value : goal.returns-in_err-place-clause-value
returns-in_err-place-clause-value c =
    let table = c.args.self.now in
    ap (option_map (λ node. node_view node.now)) c.from_residual.ensures
    ∙ sym (is_missing c.args.key.now table.keys (map (λ n. node_view n) table.nodes.items) (sym c.in_err-place.ensures))
    ∙ ap (table_node_at c.args.key.now) (sym (branches_view-is table))

pub index-requires : goal.index-requires
index-requires c =
    let table = c.args.self.now in
    let whole = opened_whole table c.requires in
    let inside = is_within c.args.key.now table.keys table.nodes.items c.in_ok-place.place whole.same (sym c.in_ok-place.ensures) in
    let len = table.nodes.ok.0 in
    omega arith

pub returns-clause-value : goal.returns-clause-value
returns-clause-value c =
    let table = c.args.self.now in
    let node = c.index.result.now in
    let nodes = map (λ n. node_view n) table.nodes.items in
    let whole = opened_whole table c.requires in
    let found = is_found c.args.key.now table.keys nodes c.in_ok-place.place (node_view node)
    (whole.same ∙ sym (length-map table.nodes.items (λ n. node_view n))) (sym c.in_ok-place.ensures) in
    ap Some (ap (λ n. node_view n) c.index.ensures ∙ sym (seen-at table.nodes.items c.in_ok-place.place node))
    ∙ sym found ∙ ap (table_node_at c.args.key.now) (sym (branches_view-is table))

pub returns-clause-whole : goal.returns-clause-whole
returns-clause-whole c =
    let table = c.args.self.now in
    let whole = opened_whole table c.requires in
    let inside = is_within c.args.key.now table.keys table.nodes.items c.in_ok-place.place whole.same (sym c.in_ok-place.ensures) in
    ap (λ n. is_whole_node n) c.index.ensures ∙ whole_at table.nodes.items c.in_ok-place.place c.index.result.now whole.all inside
