use Rattle.std.proofs.Common.{sym, ap, ◌∙◌}
use Rattle.std.specs.FinMap as finmap
use Rattle.deny_text.proofs.MapLemmas.{get-held}
use Rattle.deny_text.proofs.text_map.TextMap.get.Goals as goal

pub returns : goal.returns
returns g c = c.get.ensures.value ∙ sym (get-held c.args.key.now c.self.inside.held.entries c.self.invariant) ∙ ap (λ m. finmap.get m c.args.key.now) c.self.view_is
