use Rattle.std.proofs.Common.{refl, ap, subst}
use Rattle.std.specs.Prelude.{unwrap_or}
use Rattle.std.proofs.lemmas.Option.{slice_get_read}
use Rattle.diag_core.specs.Kept.{IsFound}
use Rattle.diag_core.proofs.FileLemmas.{set_itself}
use Rattle.diag_core.proofs.files.license_span_at.Goals as goal

pub returns-clause-found : goal.returns-clause-found
returns-clause-found c =
    let files = c.args.files.now.items in
    let own = c.index_mut.result.now.source in
    let there = slice_get_read files _ c.args.id c.index_mut.result.now refl c.requires c.index_mut.ensures.value in
    rw there (λ text is. subst (λ source. IsFound source c.license_span.result) (ap (λ some. unwrap_or some own) is) c.license_span.ensures.found)

pub returns-clause-same : goal.returns-clause-same
returns-clause-same c = set_itself c.args.files.now.items c.args.id c.index_mut.result.now c.license_span.new.self c.index_mut.ensures.value c.license_span.ensures.same
