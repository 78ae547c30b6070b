use Rattle.std.proofs.Common.{[], ◌∷◌, ◌++◌, List, ap, sym, ◌∙◌}
use Rattle.gather_license.specs.Settled.{scanner_of_scan}
use Rattle.gather_license.specs.declared.expression.kept.KeptFile.{KeptFile}
use Rattle.gather_license.specs.expression.Kept.{files_kept_in}
use Rattle.gather_license.proofs.expression.KeptLemmas.{kept_more}
use Rattle.gather_license.proofs.expression.kept.all_kept.Goals as goal

pub reads-preserved : goal.reads-preserved
reads-preserved g c =
    let scanner = scanner_of_scan g.C.Catalog.lists g.I.Identifier.match_of c.args.scan.now in
    let files = c.args.pack.now.files in
    let read = c.read-item.result in
    c.in_ok-push_kept.ensures
    ∙ ap (λ (kept : List KeptFile). kept ++ files_kept_in scanner files (read ∷ [])) c.reads.invariant
    ∙ sym (kept_more scanner files c.reads-read-items.result.now c.reads.read-index read c.reads-test.true c.read-item.is)
