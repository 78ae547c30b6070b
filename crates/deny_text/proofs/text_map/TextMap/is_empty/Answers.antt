use Rattle.std.proofs.Common.{◌∙◌, sym}
use Rattle.deny_text.proofs.MapLemmas.{is_empty-held}
use Rattle.deny_text.proofs.text_map.TextMap.is_empty.Goals as goal

pub returns : goal.returns
returns g c =
    let none = is_empty-held c.self.inside.held.entries c.self.invariant in (
      λ yes. sym c.self.view_is ∙ none.0 (c.is_empty.ensures.0 yes),
      λ is. c.is_empty.ensures.1 (none.1 (c.self.view_is ∙ is)),
    )
