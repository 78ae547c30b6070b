use Rattle.deny_text.proofs.MapLemmas.{empty-held}
use Rattle.deny_text.proofs.text_map.TextMap.new.Goals as goal

pub returns : goal.returns
returns g c = empty-held c.new.result.entries c.new.ensures.empty
