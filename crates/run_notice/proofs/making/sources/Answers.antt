use Rattle.std.proofs.Common.{◌≡◌, ◌∙◌, ◌<◌, map, take, length, slice_get, ap, arith, sym, rules, ◌++◌}
use Rattle.std.specs.Option.{option_copied}
use Rattle.graph_core.specs.Krate.{record_of}
use Rattle.graph_core.specs.selection.Listed.{record_behind}
use Rattle.check_notice.proofs.FindLemmas.{item_at}
use Rattle.run_notice.specs.Steps.{noticed_by, source_at}
use Rattle.run_notice.proofs.MakingLemmas.{lent_count, lent_next, noticed_next}
use Rattle.run_notice.proofs.making.sources.Goals as goal

pub crates-preserved : goal.crates-preserved
crates-preserved c =
    let krates = c.args.krates.now in
    let reports = c.args.reports.now in
    let own = c.args.own.now in
    let place = c.crates.place in
    let krate = c.index-krates-place.result in
    let within : place < length krates = search rules in
    let at : place ≡ length (map record_behind (take place krates)) = lent_count krates place (omega (arith, within)) in
    let report : option_copied c.get.result ≡ slice_get reports (length (map record_behind (take place krates))) =
    item_at reports place c.get.result c.get.ensures.lookup ∙ ap (slice_get reports) at in
    let texts : option_copied c.get-in-crates.result ≡ slice_get own (length (map record_behind (take place krates))) =
    item_at own place c.get-in-crates.result c.get-in-crates.ensures.lookup ∙ ap (slice_get own) at in
    c.in_ok-push_source.ensures
    ∙ ap (λ so_far. so_far ++ source_at (record_of krate.now) (option_copied c.get.result) (option_copied c.get-in-crates.result)) c.crates.invariant
    ∙ ap (λ found. noticed_by (map record_behind (take place krates)) reports own ++ source_at (record_of krate.now) found (option_copied c.get-in-crates.result)) report
    ∙ ap (λ found. noticed_by (map record_behind (take place krates)) reports own ++ source_at (record_of krate.now) (slice_get reports (length (map record_behind (take place krates)))) found) texts
    ∙ sym (noticed_next (map record_behind (take place krates)) (record_behind krate) reports own)
    ∙ ap (λ crates. noticed_by crates reports own) (sym (lent_next krates place krate within c.index-krates-place.is))
