use Rattle.std.proofs.Common.{◌∙◌, ap, ◌++◌, [], ◌∷◌}
use Rattle.spdx_core.proofs.ReadingLemmas.{last_by}
use Rattle.spdx_core.proofs.reader.except_last.Goals as goal

pub returns-in_ok-push-in-Some-clause-ok : goal.returns-in_ok-push-in-Some-clause-ok
returns-in_ok-push-in-Some-clause-ok c =
    last_by c.args.terms.now.items c.pop.new.self.items c.push.new.self.items c.in-Some.last c.args.name c.args.end c.in-Some.ensures.items
    (c.in_ok-push-in-Some.ensures.items ∙ ap (λ term. c.pop.new.self.items ++ term ∷ []) c.excepted.ensures)
