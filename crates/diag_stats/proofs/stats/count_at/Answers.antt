use Rattle.std.proofs.Common.{◌≡◌, ◌∙◌, ℕ, ◌+◌, ap, ap₂, sym, take, get_or, arith}
use Rattle.std.specs.Prelude.{◌-◌, ◌^◌, min}
use Rattle.std.specs.List.{sum_by}
use Rattle.std.proofs.lemmas.List.Sums.{sum_by_more}
use Rattle.diag_stats.specs.Counts.{count_in}
use Rattle.diag_stats.proofs.stats.count_at.Goals as goal

-- a sum that was cut, and one more
cut_more : (sum more : ℕ) → min (min sum (2 ^ 64 - 1) + more) (2 ^ 64 - 1) ≡ min (sum + more) (2 ^ 64 - 1)
cut_more sum more = omega arith

pub packs-preserved : goal.packs-preserved
packs-preserved c =
    let count = count_in c.args.severity in
    let packs = c.args.packs.now in
    let place = c.packs.pack-index in
    c.saturating_add-count.ensures
    ∙ ap₂ (λ sum more. min (sum + more) (2 ^ 64 - 1)) c.packs.invariant (c.count_in.ensures ∙ ap count c.pack-item.is)
    ∙ cut_more (sum_by count (take place packs)) (count (get_or packs place c.pack-item.result))
    ∙ ap (λ sum. min sum (2 ^ 64 - 1)) (sym (sum_by_more count packs place c.pack-item.result c.packs-test.true))
