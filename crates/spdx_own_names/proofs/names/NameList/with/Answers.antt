use Rattle.std.proofs.Common.{ℕ, List, [], ◌∷◌, ◌++◌, true, sym, ap, subst, ◌∙◌}
use Rattle.std.specs.FinMap.{insert}
use Rattle.spdx_own_names.specs.Index.{HasNames}
use Rattle.spdx_own_names.proofs.IndexLemmas.{one_more_name}
use Rattle.spdx_own_names.proofs.names.NameList.with.Goals as goal

pub invariant_of-result : goal.invariant_of-result
invariant_of-result c =
    subst (λ (listed : List (List ℕ)). HasNames c.insert.new.self listed)
    (sym (c.in_ok-push.ensures.ok ∙ ap (λ (name : List ℕ). c.self.inside.listed ++ name ∷ []) c.in_ok-name.ensures))
    (one_more_name c.self.inside.known c.insert.new.self c.self.inside.listed c.args.name.now true c.self.invariant
    (c.in_ok-insert.ensures.ok ∙ ap (λ key. insert c.self.inside.known key true) c.in_ok-key.ensures))
