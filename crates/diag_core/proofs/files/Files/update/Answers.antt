use Rattle.std.proofs.Common.{◌<◌, length}
use Rattle.diag_core.proofs.FileLemmas.{set_with_source_at}
use Rattle.diag_core.proofs.files.Files.update.Goals as goal

pub returns-clause-ok : goal.returns-clause-ok
returns-clause-ok c =
    let files = c.self.inside.files.items in
    let within : c.args.id < length files = rw c.self.view_is c.requires in
    rw (← c.self.view_is) (set_with_source_at files c.args.id c.args.source c.index_mut.result.now c.update.new.self within c.index_mut.ensures.value c.update.ensures)
