use Rattle.std.proofs.Common.{◌∙◌, ap, [], List, Option, vec_capacity}
use Rattle.spdx_core.specs.declared.certificates.verdict.Hit.{Hit}
use Rattle.check_core.specs.evaluate.Entries.{EntryFamilies}
use Rattle.check_core.specs.evaluate.Evaluation.{Evaluation}
use Rattle.check_core.proofs.evaluate.EvaluationLemmas.{seen_as}
use Rattle.check_core.proofs.evaluate.evaluator.Evaluator.with_room.Goals as goal

pub returns : goal.returns
returns g c =
    let made : EntryFamilies → List (Option Hit) → Evaluation =
    λ families hits. seen_as c.args.nodes families hits (vec_capacity c.in_ok-kept.kept) (vec_capacity c.in_ok-answers.answers) in
    ap (made c.in_ok-index.index) c.in_ok-kept.ensures.items ∙ ap (λ (f : EntryFamilies). made f []) c.in_ok-index.ensures
