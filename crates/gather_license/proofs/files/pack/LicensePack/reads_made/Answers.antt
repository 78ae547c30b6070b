use Rattle.std.proofs.Common.{sym, ap, ◌∙◌}
use Rattle.gather_license.specs.files.Pack.{in_path_order}
use Rattle.gather_license.specs.files.View.{PackView, paths_of, paths_read}
use Rattle.gather_license.proofs.files.pack.LicensePack.reads_made.Goals as goal

pub returns-clause-sorted : goal.returns-clause-sorted
returns-clause-sorted c =
    ap (λ (p : PackView). paths_of p.files) (sym c.self.view_is) ∙ c.self.invariant.paths ∙ ap (λ (p : PackView). in_path_order (paths_read p.reads)) c.self.view_is
