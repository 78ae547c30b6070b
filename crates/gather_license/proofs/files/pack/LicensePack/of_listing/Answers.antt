use Rattle.std.proofs.Common.{[], ◌∷◌, ◌++◌, List, refl, sym, ap, subst, ◌∙◌}
use Rattle.tree_core.specs.declared.reads.ReadRecord.{ReadRecord}
use Rattle.tree_core.specs.file_reads.Views.{heard_folder}
use Rattle.gather_license.specs.files.View.{KeepsReadFiles, kept_files}
use Rattle.gather_license.proofs.files.PackLemmas.{same_pack, kept_of_listing}
use Rattle.gather_license.proofs.files.pack.LicensePack.of_listing.Goals as goal

pub invariant_of-result : goal.invariant_of-result
invariant_of-result c =
    subst KeepsReadFiles
    (sym (same_pack c.in_ok-folder.ensures refl (ap kept_files c.new.ensures.empty)
    (c.in_ok-push.ensures.ok ∙ ap (λ (reads : List ReadRecord). reads ++ c.in_ok-record.record ∷ []) c.new-reads.ensures
    ∙ ap (λ (read : ReadRecord). read ∷ []) c.in_ok-record.ensures)))
    (kept_of_listing c.args.folder.now (heard_folder c.args.listing))
