use Rattle.std.proofs.Common.{◌∙◌, ap, ◌++◌, map, rules}
use Rattle.std.proofs.lemmas.Int.{to_z-of_z}
use mir.Syntax.{w32}
use mir.Val.{SFits}
use Rattle.policy_core.specs.validate.Valid.{address_findings, address_judged, clarification_findings, findings_by_each, removed_findings, removed_key, version_findings}
use Rattle.policy_core.proofs.validate.JudgedLemmas.{all_told}
use Rattle.policy_core.proofs.validate.validate.validate_config.Goals as goal

pub returns-clause-told : goal.returns-clause-told
returns-clause-told g c =
    let lists = g.C.Catalog.lists c.args.catalog.now in
    let file = c.args.file in
    let config = c.args.config in
    let fits : SFits w32 config.version = search rules in
    all_told c.args.found.now (address_findings file config) (clarification_findings lists file config) (removed_findings file config)
    (version_findings config.version file config.exceptions)
    c.judge_addresses.new.found c.judge_clarifications.new.found c.tell_removed.new.found c.tell_versions.new.found
    (c.in_ok-ignore_sources.ensures.told ∙ ap (λ items. c.args.found.now ++ findings_by_each (address_judged file) items) c.items-sources.ensures)
    c.in_ok-clarifications.ensures.told
    (c.in_ok-tell_removed.ensures.ok ∙ ap (λ keys. c.judge_clarifications.new.found ++ map (removed_key file) keys) c.items.ensures)
    (c.in_ok-tell_versions.ensures.ok
    ∙ ap (λ version. c.tell_removed.new.found ++ version_findings version file c.items-2.result.now) (to_z-of_z w32 config.version fits)
    ∙ ap (λ items. c.tell_removed.new.found ++ version_findings config.version file items) c.items-2.ensures)
