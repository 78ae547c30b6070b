use Rattle.std.proofs.Common.{refl, sym, ap, subst}
use Rattle.gather_license.specs.files.View.{KeepsReadFiles, kept_files}
use Rattle.gather_license.proofs.files.PackLemmas.{kept_unread, same_pack}
use Rattle.gather_license.proofs.files.pack.LicensePack.unread.Goals as goal

pub invariant_of-result : goal.invariant_of-result
invariant_of-result c =
    subst KeepsReadFiles
    (sym (same_pack c.in_ok-folder.ensures refl (ap kept_files c.new.ensures.empty) c.new-reads.ensures))
    (kept_unread c.args.folder.now)
