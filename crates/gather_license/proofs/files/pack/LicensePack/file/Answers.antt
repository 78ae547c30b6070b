use Rattle.std.proofs.Common.{List, ℕ, ap, option_copied, ◌∙◌}
use Rattle.tree_core.specs.file_reads.Views.{heard_file}
use Rattle.gather_license.specs.files.View.{PackView, file_at}
use Rattle.gather_license.proofs.files.PackLemmas.{copied_map, file_found}
use Rattle.gather_license.proofs.files.pack.LicensePack.file.Goals as goal

pub returns : goal.returns
returns c =
    copied_map heard_file c.get.result
    ∙ file_found c.self.inside.files.entries c.in_ok-key.key (option_copied c.get.result) c.get.ensures.value
    ∙ ap (λ (p : PackView). file_at p.files c.in_ok-key.key) c.self.view_is
    ∙ ap (λ (path : List ℕ). file_at c.args.self.now.files path) c.in_ok-key.ensures
