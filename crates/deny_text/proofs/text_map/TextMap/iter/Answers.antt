use Rattle.std.proofs.Common.{sym, ap, ◌∙◌}
use Rattle.std.specs.FinMap as finmap
use Rattle.deny_text.specs.TextMap.{entries_of_held}
use Rattle.deny_text.proofs.MapLemmas.{entries-held}
use Rattle.deny_text.proofs.text_map.TextMap.iter.Goals as goal

pub returns : goal.returns
returns g c = ap entries_of_held c.iter.ensures.rest ∙ sym (entries-held c.self.inside.held.entries c.self.invariant) ∙ ap finmap.entries c.self.view_is
