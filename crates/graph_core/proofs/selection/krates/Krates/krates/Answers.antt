-- The crates are those of the items.
use Rattle.std.proofs.Common.{map, sym, ◌∙◌, ap}
use Rattle.graph_core.specs.Krate.{record_of}
use Rattle.graph_core.specs.selection.Listed.{reached_in}
use Rattle.graph_core.proofs.selection.KeptLemmas.{items-all}
use Rattle.graph_core.proofs.selection.krates.Krates.krates.Goals as goal

pub returns : goal.returns
returns c =
    ap (map record_of) c.deref.ensures.value
    ∙ (sym (items-all c.self.inside.crates.items c.self.inside.without.items) ∙ ap reached_in c.self.view_is)
