use Rattle.std.proofs.Common.{◌∙◌, sym, ap, List, [], ◌∷◌, ◌++◌, ℕ}
use Rattle.spdx_terms.proofs.families.MapLemmas.{further}
use Rattle.spdx_terms.proofs.families.map.add_family.Goals as goal

pub returns-clause-ok : goal.returns-clause-ok
returns-clause-ok c =
    further c.args.map.now c.insert.new.self c.args.family c.args.place c.push.new.self c.in_ok-insert.ensures.updates
    (c.in_ok-push.ensures.ok ∙ ap (λ (l : List ℕ). l ++ c.args.place ∷ []) (c.new-places.ensures ∙ sym c.requires))
