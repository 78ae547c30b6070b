use Rattle.std.proofs.Common.{◌∙◌, sym, ap, true, ◌++◌, append-nil, append_assoc, rules}
use Rattle.std.proofs.lemmas.Int.{to_z-of_z}
use mir.Syntax.{w32}
use mir.Val.{SFits}
use Rattle.policy_core.specs.validate.Valid.{clarification_judged, findings_by_each, version_findings}
use Rattle.policy_core.proofs.AnswerLemmas.{on_ok}
use Rattle.policy_core.proofs.ExceptionLemmas.{more_entries}
use Rattle.policy_core.proofs.exceptions.keep_entries.Goals as goal

pub returns-clause-told : goal.returns-clause-told
returns-clause-told g c =
    let lists = g.C.Catalog.lists c.args.catalog.now in
    let file = c.args.file in
    let held = c.args.held in
    let version = c.args.cfg.now.version in
    let fits : SFits w32 version = search rules in
    let overlays = findings_by_each (clarification_judged lists file true) held.clarify in
    on_ok c.add_exceptions.result _
    (c.in_ok-tell_versions.ensures.ok
    ∙ ap (λ own. c.judge_clarifications.new.found ++ version_findings own file c.items.result.now) (to_z-of_z w32 version fits)
    ∙ ap (λ items. c.judge_clarifications.new.found ++ version_findings version file items) c.items.ensures
    ∙ ap (λ found. found ++ version_findings version file held.exceptions) c.in_ok-judge_clarifications.ensures.told
    ∙ append_assoc c.args.diags.now overlays (version_findings version file held.exceptions))

pub returns-clause-policy : goal.returns-clause-policy
returns-clause-policy g c =
    more_entries c.args.cfg.now c.judge_clarifications.new.valid c.judge_clarifications.ensures.valid_front.0 c.add_exceptions.new.valid c.add_exceptions.ensures.front.0
    c.judge_clarifications.ensures.valid_front.1 c.add_exceptions.ensures.front.1

pub returns-in_err-judge_clarifications-clause-policy : goal.returns-in_err-judge_clarifications-clause-policy
returns-in_err-judge_clarifications-clause-policy g c =
    more_entries c.args.cfg.now c.judge_clarifications.new.valid c.judge_clarifications.ensures.valid_front.0 c.args.cfg.now.exceptions _
    c.judge_clarifications.ensures.valid_front.1 (sym (append-nil c.args.cfg.now.exceptions))

pub returns-in_err-tell_versions-clause-policy : goal.returns-in_err-tell_versions-clause-policy
returns-in_err-tell_versions-clause-policy g c =
    more_entries c.args.cfg.now c.judge_clarifications.new.valid c.judge_clarifications.ensures.valid_front.0 c.args.cfg.now.exceptions _
    c.judge_clarifications.ensures.valid_front.1 (sym (append-nil c.args.cfg.now.exceptions))
