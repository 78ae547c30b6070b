use Rattle.std.proofs.Common.{sym, ap, ◌∙◌}
use Rattle.std.specs.FinMap as finmap
use Rattle.deny_text.proofs.MapLemmas.{len-held}
use Rattle.deny_text.proofs.text_map.TextMap.len.Goals as goal

pub returns : goal.returns
returns g c = c.len.ensures.len ∙ sym (len-held c.self.inside.held.entries c.self.invariant) ∙ ap finmap.len c.self.view_is
