use Rattle.std.proofs.Common.{◌≡◌, ◌∙◌, ◌<◌, sym, ap, subst, true, false, length, drop, get_or, arith}
use Rattle.spdx_terms.specs.Tokens.{is_white}
use Rattle.spdx_terms.specs.Items.{first_item}
use Rattle.spdx_terms.specs.NextItem.{StandsNext}
use Rattle.spdx_terms.proofs.ItemBorders.{white_step, white_border, item_step}
use Rattle.spdx_terms.proofs.items.next_item.Goals as goal
use Rattle.spdx_terms.proofs.items.next_item.Goals.{then-white-test+else-is_white, else-white-test}

pub white-preserved : goal.white-preserved
white-preserved g c =
    let white : is_white (get_or c.args.text.now c.white.place 0) ≡ true =
    subst (λ t. is_white (get_or t c.white.place 0) ≡ true) c.as_bytes.ensures.value (sym c.is_white.ensures ∙ c.if-is_white.true) in
    record {
      later = omega (arith, c.white.invariant.later);
      border = white_border c.args.text.now c.white.place c.utf8.text c.white-test.true white;
      all = c.white.invariant.all ∙ white_step c.args.mode (g.C.Catalog.lists c.args.catalog.now) c.args.wanted c.white.place c.args.text.now c.white-test.true white;
    }

pub returns : goal.returns
returns g c =
    let lists = g.C.Catalog.lists c.args.catalog.now in
    let dark : (c.white.place < length c.args.text.now) × (is_white (get_or c.args.text.now c.white.place 0) ≡ false) =
    elim c.white-test.branch [
      | then-white-test+else-is_white w ↦
          (w.white-test.true, subst (λ t. is_white (get_or t c.white.place 0) ≡ false) w.as_bytes.ensures.value (sym w.is_white.ensures ∙ w.if-is_white.false))
      | else-white-test w ↦ let within = c.white.invariant.border.0 in absurd (omega (arith, within, w.white-test.false, c.if-place-text.false))
    ] in
    let value = c.as_bytes-2.ensures.value in
    let step : StandsNext c.args.mode lists c.args.wanted c.white.place c.args.text.now c.in_ok-found.found =
    item_step c.args.mode lists (g.met.C.Catalog.lawful c.args.catalog.now) c.args.wanted c.white.place c.args.text.now c.utf8.text c.white.invariant.border dark.0 dark.1
    c.in_ok-found.found
    (c.in_ok-found.ensures
    ∙ ap (λ b. first_item c.args.mode lists c.args.wanted c.white.place b (drop 1 c.split_at.result.1.now)) (ap (λ t. get_or t c.white.place 0) value)
    ∙ ap (λ rest. first_item c.args.mode lists c.args.wanted c.white.place (get_or c.args.text.now c.white.place 0) (drop 1 rest)) c.split_at.ensures.back) in
    let from = c.white.invariant.later in
    record { later = omega (arith, step.later, from); border = step.border; items = c.white.invariant.all ∙ step.items }
