use Rattle.std.proofs.Common.{◌≡◌, Some, is_some, true, true≢false, sym, ap, subst, ◌∙◌}
use Rattle.toml_value.specs.BelowViews.{LeadsOn}
use Rattle.toml_value.specs.BranchViews.{branches_view, node_view, is_whole_node, parts_of_dotted}
use Rattle.toml_value.proofs.LevelLemmas.{place_within, node_found}
use Rattle.toml_value.proofs.TreeLemmas.{opened_whole, whole_at}
use Rattle.toml_value.proofs.PutLemmas.{dotted_is}
use Rattle.toml_value.proofs.tree.put.below_at.Goals as goal

pub take-requires-clause-inside : goal.take-requires-clause-inside
take-requires-clause-inside c = place_within c.args.table.now c.requires.whole c.args.key.now c.args.place c.requires.found

pub dotted_parts-requires : goal.dotted_parts-requires
dotted_parts-requires c =
    let table = c.args.table.now in
    let whole = opened_whole table c.requires.whole in
    let inside = place_within table c.requires.whole c.args.key.now c.args.place c.requires.found in
    record { whole = ap (λ n. is_whole_node n) c.take.ensures.value ∙ whole_at table.nodes.items c.args.place c.take.result whole.all inside }

pub unreachable-requires : goal.unreachable-requires
unreachable-requires c =
    let table = c.args.table.now in
    let there = node_found table c.requires.whole c.args.key.now c.args.place c.take.result c.requires.found c.take.ensures.value in
    let leads : is_some (parts_of_dotted (node_view c.take.result)) ≡ true = subst LeadsOn there c.requires.leads in
    true≢false (sym (ap is_some c.in-None.ensures.parts ∙ leads))

pub returns-clause-taken : goal.returns-clause-taken
returns-clause-taken c =
    let table = c.args.table.now in
    let found = c.in-Some in
    let there = node_found table c.requires.whole c.args.key.now c.args.place c.take.result c.requires.found c.take.ensures.value in (
      there ∙ ap (λ n. Some (c.args.place, n)) (dotted_is (node_view c.take.result) found.span (branches_view found.inner) found.ensures.parts),
      c.take.ensures.left,
    )
