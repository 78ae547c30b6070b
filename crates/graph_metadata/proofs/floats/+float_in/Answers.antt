-- A value without a float is passed over; in the first that holds one is the first float.
use Rattle.std.proofs.Common.{◌≡◌, IfOk, sym, ap, subst, ◌∙◌}
use Rattle.serde_json.specs.View.{view}
use Rattle.graph_metadata.specs.Floats as spec
use Rattle.graph_metadata.specs.Told as told
use Rattle.graph_metadata.proofs.FloatWalks.{float-items-next, float-items-held, float-members-next, float-members-held}
use Rattle.graph_metadata.proofs.floats.+float_in.Goals as goal

pub float_in_items-returns-then-holds_float : goal.float_in_items-returns-then-holds_float
float_in_items-returns-then-holds_float t c =
    subst (λ first. IfOk c.float_in.result (λ found. found ≡ first))
    (ap (λ place. spec.float_in place (view c.index-items-index.result)) (c.as_str.ensures.value ∙ c.in_ok-place.ensures)
    ∙ sym (c.items.invariant
    ∙ float-items-held c.args.items.now c.items.index c.index-items-index.result c.items-test.true c.index-items-index.is
    c.args.place.now (sym c.holds_float.ensures ∙ c.if-holds_float.true)))
    c.float_in.ensures

pub float_in_items-items-preserved : goal.float_in_items-items-preserved
float_in_items-items-preserved t c =
    c.items.invariant
    ∙ float-items-next c.args.items.now c.items.index c.index-items-index.result c.items-test.true c.index-items-index.is
    c.args.place.now (sym c.holds_float.ensures ∙ c.if-holds_float.false)

pub float_in_members-returns-then-holds_float : goal.float_in_members-returns-then-holds_float
float_in_members-returns-then-holds_float t c =
    subst (λ first. IfOk c.float_in.result (λ found. found ≡ first))
    (ap (λ place. spec.float_in place (view c.in-Some.value.now))
    (c.as_str-then-holds_float.ensures.value ∙ (c.in_ok-place.ensures ∙ ap (told.with_key c.args.place.now) c.as_str.ensures.value))
    ∙ sym (c.members.invariant
    ∙ float-members-held c.members.key-iterator c.in-Some.key.now c.in-Some.value.now c.next.new.self c.in-Some.ensures.steps
    c.args.place.now (sym c.holds_float.ensures ∙ c.if-holds_float.true)))
    c.float_in.ensures

pub float_in_members-members-preserved : goal.float_in_members-members-preserved
float_in_members-members-preserved t c =
    c.members.invariant
    ∙ float-members-next c.members.key-iterator c.in-Some.key.now c.in-Some.value.now c.next.new.self c.in-Some.ensures.steps
    c.args.place.now (sym c.holds_float.ensures ∙ c.if-holds_float.false)
