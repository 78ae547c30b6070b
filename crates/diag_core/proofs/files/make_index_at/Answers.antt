use Rattle.diag_core.proofs.FileLemmas.{set_itself}
use Rattle.diag_core.proofs.files.make_index_at.Goals as goal

pub returns : goal.returns
returns c = set_itself c.args.files.now.items c.args.id c.index_mut.result.now c.make_index.new.self c.index_mut.ensures.value c.make_index.ensures
