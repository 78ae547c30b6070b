use Rattle.std.proofs.Common.{◌∷◌, ap, sym, ◌∙◌, rules}
use Rattle.std.specs.Option.{option_copied}
use Rattle.deny_text.specs.Path.{ancestors_from}
use Rattle.deny_text.proofs.PathLemmas.{ancestors_of-cons}
use Rattle.deny_text.proofs.ancestors.AncestorIterIterator.next.Goals as goal

pub returns-clause-steps : goal.returns-clause-steps
returns-clause-steps c =
    sym c.self.view_is
    ∙ ap (λ path. ancestors_from (option_copied path)) (c.in_ok-path.was {u = tt})
    ∙ ancestors_of-cons c.in_ok-path.path.now
    ∙ ap (λ above. c.in_ok-path.path.now ∷ ancestors_from above) (sym c.parent-self-inside.ensures)

pub returns-clause-goes : goal.returns-clause-goes
returns-clause-goes c = let step = returns-clause-steps c in search (rules, step)
