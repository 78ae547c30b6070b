use Rattle.std.proofs.Common.{◌∙◌, sym, ap, List, [], ◌∷◌, ◌++◌, ℕ}
use Rattle.policy_parts.proofs.spec.IndexLemmas.{further}
use Rattle.policy_parts.proofs.spec.number_index.add_number.Goals as goal

pub returns : goal.returns
returns c =
    further c.args.places.now c.insert.new.self c.args.number c.args.place c.push.new.self c.in_ok-insert.ensures.updates
    (c.in_ok-push.ensures.ok ∙ ap (λ (l : List ℕ). l ++ c.args.place ∷ []) (c.new-first.ensures ∙ sym c.requires))
