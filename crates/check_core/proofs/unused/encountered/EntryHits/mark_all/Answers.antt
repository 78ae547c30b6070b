use Rattle.check_core.proofs.unused.FlagLemmas.{all_more}
use Rattle.check_core.proofs.unused.encountered.EntryHits.mark_all.Goals as goal

pub returns : goal.returns
returns c policy before is = all_more policy before c.args.self.now c.mark_each.new.self c.args.hits.now c.mark_each.ensures is
