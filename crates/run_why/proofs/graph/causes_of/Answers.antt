-- One crate after another.
use Rattle.std.proofs.Common.{◌≡◌, ◌∙◌, ◌+◌, ap, length, arith}
use Rattle.std.proofs.lemmas.List.{length-map, length_push}
use Rattle.graph_core.specs.Metadata.{CrateNode}
use Rattle.graph_core.specs.selection.Choice.{choice_of}
use Rattle.run_why.proofs.GraphLemmas.{causes_more, within_crates}
use Rattle.run_why.proofs.graph.causes_of.Goals as goal

pub places-init : goal.places-init
places-init c = record { counted = ap length c.new-causes.ensures.items; each = λ place krate within is. absurd (omega (arith, within)) }

pub places-preserved : goal.places-preserved
places-preserved c =
    let so_far = c.places.invariant in
    let counted = so_far.counted in
    let after = c.push.new.self.items in
    let longer : length after ≡ c.places.place + 1 = ap length c.in_ok-push.ensures.items ∙ length_push c.places.causes.items c.why_unchecked-cause.result ∙ ap (λ n. n + 1) counted in
    record {
      counted = longer;
      each = causes_more c.args.asked.now.metadata (choice_of c.args.asked.now.selection) c.args.asked.now.own_specs c.args.include c.places.causes.items after c.why_unchecked-cause.result c.places.place
          counted c.in_ok-push.ensures.items so_far.each c.why_unchecked-cause.ensures;
    }

pub returns : goal.returns
returns c =
    let so_far = c.places.invariant in
    let counted = so_far.counted in
    let all = c.places-test.false in
    let same = length-map c.args.asked.now.metadata.nodes (λ (node : CrateNode). node.krate) in
    record {
      counted = omega (arith, counted, all, same);
      each = λ place krate is. so_far.each place krate (within_crates c.args.asked.now.metadata place krate c.places.place is (omega (arith, all))) is;
    }
