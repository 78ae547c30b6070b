use Rattle.std.proofs.Common.{sym, ap, ◌∙◌}
use Rattle.tree_core.specs.Content.{place_above}
use Rattle.tree_core.proofs.PlaceLemmas.{names_cmp-IsAntisymmetric}
use Rattle.tree_core.proofs.place.compare.Goals as goal

pub compare_last-requires : goal.compare_last-requires
compare_last-requires c =
    let same = names_cmp-IsAntisymmetric _ _ (sym c.cmp.ensures ∙ c.in-Equal.is) in
    ap place_above c.names.ensures ∙ sym c.names_above.ensures ∙ same ∙ c.names_above-2.ensures ∙ sym (ap place_above c.names-in-Equal.ensures)
