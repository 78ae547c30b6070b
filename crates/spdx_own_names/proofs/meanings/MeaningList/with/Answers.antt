use Rattle.std.proofs.Common.{ℕ, List, [], ◌∷◌, ◌++◌, true, sym, ap, subst, ◌∙◌}
use Rattle.std.specs.FinMap.{insert}
use Rattle.std.specs.Str.{str_to_ascii_lowercase}
use Rattle.spdx_own_names.specs.Index.{HasNames}
use Rattle.spdx_own_names.specs.IndexView.{meanings_listed, texts_lowered}
use Rattle.spdx_own_names.proofs.IndexLemmas.{texts_push, one_more_name}
use Rattle.spdx_own_names.proofs.meanings.MeaningList.with.Goals as goal

pub invariant_of-result : goal.invariant_of-result
invariant_of-result c =
    let listed = c.self.inside.listed in
    subst (λ (names : List (List ℕ)). HasNames c.insert.new.self names)
    (sym (ap (λ those. texts_lowered (meanings_listed those)) c.in_ok-push.ensures.ok
    ∙ texts_push listed (record { text = c.in_ok-text.text; name = c.in_ok-name.name })
    ∙ ap (λ (text : List ℕ). texts_lowered (meanings_listed listed) ++ str_to_ascii_lowercase text ∷ []) c.in_ok-text.ensures))
    (one_more_name c.self.inside.lowered c.insert.new.self (texts_lowered (meanings_listed listed)) (str_to_ascii_lowercase c.args.text.now) true c.self.invariant
    (c.in_ok-insert.ensures.ok ∙ ap (λ key. insert c.self.inside.lowered key true) c.in_ok-key.ensures))
