use Rattle.std.proofs.Common.{◌≡◌, ◌+◌, ◌-◌, ◌++◌, append_assoc, append-nil, drop, sym, ap, arith, ◌∙◌}
use Rattle.diag_core.specs.lists.Dedup.{warning_where, warnings_of}
use Rattle.diag_core.proofs.lists.WarningLemmas.{warnings_step, warnings_end}
use Rattle.diag_core.proofs.lists.context.warn.Goals as goal

-- one more pair
pub pairs-preserved : goal.pairs-preserved
pairs-preserved g c =
    let eq = g.T.PartialEq.eq in
    let file = c.args.file in
    let xs = c.args.items.now in
    let told = c.pairs.invariant.0 in
    let one = c.index-items-place.result in
    let other = c.index-items-place-in-pairs.result in
    let more = warning_where eq file one other in
    let here : c.pairs.place + 1 - 1 ≡ c.pairs.place = omega arith in
    let step = warnings_step eq file xs c.pairs.place one other (omega arith) (omega arith) c.index-items-place.is c.index-items-place-in-pairs.is in (
      told ++ more,
      c.in_ok-warn_of.ensures.ok ∙ ap (λ ds. ds ++ more) c.pairs.invariant.1 ∙ append_assoc c.args.diagnostics.now told more,
      append_assoc told more (warnings_of eq file (drop (c.pairs.place + 1 - 1) xs))
          ∙ ap (λ ds. told ++ ds) (ap (λ j. more ++ warnings_of eq file (drop j xs)) here ∙ sym step) ∙ c.pairs.invariant.2,
    )

pub returns-clause-ok : goal.returns-clause-ok
returns-clause-ok g c =
    let eq = g.T.PartialEq.eq in
    let file = c.args.file in
    let xs = c.args.items.now in
    let told = c.pairs.invariant.0 in
    c.pairs.invariant.1 ∙ ap (λ ds. c.args.diagnostics.now ++ ds) (sym (append-nil told)
    ∙ ap (λ ds. told ++ ds) (sym (warnings_end eq file xs c.pairs.place (omega arith))) ∙ c.pairs.invariant.2)
