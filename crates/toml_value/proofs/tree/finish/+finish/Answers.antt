use Rattle.std.proofs.Common.{◌≡◌, map, sym, ap, ◌∙◌}
use Rattle.std.proofs.lemmas.Result.{IfOk-weaker}
use Rattle.std.specs.Vec.Iter.{into_iter_items}
use Rattle.toml_subset.specs.Data as «data»
use Rattle.toml_subset.specs.Data.{TomlContent, Items, Entries}
use Rattle.toml_subset.specs.Tables.{entries_of}
use Rattle.toml_value.specs.BranchViews.{node_view, branches_view, body_view, body_items, node_value}
use Rattle.toml_value.specs.FinishViews.{joined_entries, left_of, item_of, array_with}
use Rattle.toml_value.specs.Lookup.{with_item}
use Rattle.toml_value.specs.Views.{value_view, values_view, entries_view}
use Rattle.toml_value.proofs.LevelLemmas.{node_view-tables}
use Rattle.toml_value.proofs.ValueViews.{content_view-Table}
use Rattle.toml_value.proofs.FinishLemmas.{followed_none, none_left, none_of_length, last_items, items_step, items_followed, items_followed_none}
use Rattle.toml_value.proofs.tree.finish.+finish.Goals as goal

pub into_entries-nodes-preserved : goal.into_entries-nodes-preserved
into_entries-nodes-preserved t c =
    c.nodes.invariant ∙ ap (λ ns. joined_entries (entries_view c.nodes.entries) (left_of c.nodes.keys ns)) c.in-Some.ensures.steps.0
    ∙ c.in_ok-push_value.ensures c.in-Some.node (into_iter_items c.next.new.self) c.in_ok-value.ensures

pub into_entries-returns : goal.into_entries-returns
into_entries-returns t c =
    let entries = entries_view c.nodes.entries in
    let last = none_of_length (into_iter_items c.nodes.node-iterator) (sym c.nodes.node-iterator.rest.ok.0 ∙ c.in-None.ensures.steps.0) in
    sym (c.nodes.invariant ∙ ap (λ ns. joined_entries entries (left_of c.nodes.keys ns)) last ∙ ap (joined_entries entries) (none_left c.nodes.keys) ∙ followed_none entries)

pub into_items-returns : goal.into_items-returns
into_items-returns t c =
    let last = none_of_length (into_iter_items c.bodies.body-iterator) (sym c.bodies.body-iterator.rest.ok.0 ∙ c.in-None.ensures.steps.0) in
    sym (c.bodies.invariant ∙ ap (λ bs. items_followed (values_view c.bodies.items) (body_items (map (λ b. body_view b) bs))) last
    ∙ items_followed_none (values_view c.bodies.items))

pub into_items-bodies-preserved : goal.into_items-bodies-preserved
into_items-bodies-preserved t c =
    let items = values_view c.bodies.items in
    let body = c.in-Some.body in
    let item : value_view c.new.result ≡ item_of (body.span, branches_view body.table) =
    c.new.ensures ∙ ap (λ (x : TomlContent). record { content = x; span = body.span }) (content_view-Table c.in_ok-entries.entries ∙ ap data.table c.in_ok-entries.ensures) in
    c.bodies.invariant ∙ ap (λ bs. items_followed items (body_items (map (λ b. body_view b) bs))) c.in-Some.ensures.steps.0
    ∙ items_step items (values_view c.push.new.self) body (into_iter_items c.next.new.self) (c.in_ok-push.ensures.ok ∙ ap (with_item items) item)

pub into_value-returns-in-Ok-into_entries : goal.into_value-returns-in-Ok-into_entries
into_value-returns-in-Ok-into_entries t c =
    let n = c.in-Tables in
    let seen = map (λ b. body_view b) n.before.items in
    let all : array_with n.span (values_view c.in-Ok.items) n.last (entries_view c.in-Ok-into_entries.entries)
    ≡ array_with n.span (body_items seen) n.last (entries_of (branches_view n.inner)) =
    ap (λ (is : Items). array_with n.span is n.last (entries_view c.in-Ok-into_entries.entries)) c.in-Ok.ensures
    ∙ ap (λ (es : Entries). array_with n.span (body_items seen) n.last es) c.in-Ok-into_entries.ensures in
    let made = ap (λ (is : Items). record { content = data.array is; span = n.span }) (sym (last_items seen n.last (branches_view n.inner)))
    ∙ sym (ap (λ x. node_value (node_view x)) n.is ∙ ap node_value (node_view-tables n.span n.before n.last n.inner)) in
    IfOk-weaker c.into_array.result _ (λ value. value_view value ≡ node_value (node_view c.args.node)) (λ value is. is ∙ all ∙ made) c.into_array.ensures
