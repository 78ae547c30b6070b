use Rattle.std.proofs.Common.{◌≡◌, ◌∷◌, ◌<◌, List, length, Some, true, is_some, refl, sym, ap, subst, ◌∙◌, arith}
use Rattle.std.proofs.lemmas.Result.{IfOk-weaker}
use Rattle.toml_subset.specs.Tables.{Branches, dotted, growing, branches_with_value}
use Rattle.toml_subset.specs.declared.string.Key.{Key}
use Rattle.toml_subset.specs.frames.Levels.{found_at}
use Rattle.toml_value.specs.BelowViews.{table_with_node}
use Rattle.toml_value.specs.BranchViews.{branches_view, closed_node}
use Rattle.toml_value.specs.declared.value.Value.{Value}
use Rattle.toml_value.proofs.TreeLemmas.{node_view-dotted, is_whole-dotted}
use Rattle.toml_value.proofs.PutLemmas.{leads_on, below_free, below_put, below_room}
use Rattle.toml_value.proofs.tree.put.+put_along.Goals as goal

split : (key next : Key) (rest more : List Key) (value : Value) (table : Branches) → rest ≡ next ∷ more → is_some (branches_with_value (key ∷ rest) (closed_node value) table) ≡ true
    → is_some (branches_with_value (key ∷ next ∷ more) (closed_node value) table) ≡ true
split key next rest more value table parts free = subst (λ ks. is_some (branches_with_value (key ∷ ks) (closed_node value) table) ≡ true) parts free

shorter : (next : Key) (rest more : List Key) → rest ≡ next ∷ more → length more < length rest
shorter next rest more parts = subst (λ (ks : List Key). length more < length ks) (sym parts) (omega arith)

pub take_below-place-requires-clause-leads : goal.take_below-place-requires-clause-leads
take_below-place-requires-clause-leads t c =
    let table = branches_view c.args.table in
    let free = split c.args.key c.in-Some.next c.args.rest c.next.new.self c.args.value table c.in-Some.ensures c.requires.free in
    leads_on c.args.key c.in-Some.next c.next.new.self (closed_node c.args.value) table (found_at c.args.key table) refl free

pub put_along-requires : goal.put_along-requires
put_along-requires t c =
    let table = branches_view c.args.table in
    let below = c.take_below-place.result in
    let free = split c.args.key c.in-Some.next c.args.rest c.next.new.self c.args.value table c.in-Some.ensures c.requires.free in
    let inner = below_free c.args.key c.in-Some.next c.next.new.self (closed_node c.args.value) table below.place (branches_view c.take_below-place.new.table) below.span (branches_view below.table)
    c.take_below-place.ensures.taken free in
    let fewer = shorter c.in-Some.next c.args.rest c.next.new.self c.in-Some.ensures in
    let falls : length c.next.new.self < t = (let start = c.decreases in omega arith) in (falls, (c.take_below-place.ensures.inner, inner))

pub with_below-requires-clause-node : goal.with_below-requires-clause-node
with_below-requires-clause-node t c = is_whole-dotted c.take_below-place.result.span c.in-Ok.inner ∙ c.in-Ok.ensures.whole

pub with_below-requires-clause-room : goal.with_below-requires-clause-room
with_below-requires-clause-room t c =
    let below = c.take_below-place.result in
    below_room c.args.key (branches_view c.args.table) (branches_view c.take_below-place.new.table) below.place below.span (branches_view below.table) c.take_below-place.ensures.taken

pub returns-in-Ok-clause-view : goal.returns-in-Ok-clause-view
returns-in-Ok-clause-view t c =
    let table = branches_view c.args.table in
    let below = c.take_below-place.result in
    let inner = c.in-Ok.inner in
    let new = branches_view c.take_below-place.new.table in
    let is : branches_with_value (c.args.key ∷ c.args.rest) (closed_node c.args.value) table ≡ Some (table_with_node below.place c.args.key (growing below.span dotted (branches_view inner)) new)
    = ap (λ ks. branches_with_value (c.args.key ∷ ks) (closed_node c.args.value) table) c.in-Some.ensures
    ∙ below_put c.args.key c.in-Some.next c.next.new.self (closed_node c.args.value) table below.place new below.span (branches_view below.table) (branches_view inner)
    c.take_below-place.ensures.taken c.in-Ok.ensures.view in
    IfOk-weaker c.with_below.result _ (λ made. branches_with_value (c.args.key ∷ c.args.rest) (closed_node c.args.value) table ≡ Some (branches_view made))
    (λ made e. is ∙ ap Some (ap (λ n. table_with_node below.place c.args.key n new) (sym (node_view-dotted below.span inner)) ∙ sym e))
    c.with_below.ensures.view
