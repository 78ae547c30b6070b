use Rattle.std.proofs.Common.{◌≡◌, ◌∙◌, sym, ap, ◌+◌, [], ◌∷◌, ◌++◌, take}
use Rattle.std.proofs.lemmas.List.{take_more}
use mir.Syntax.{w32}
use mir.Val.{of_z, to_z}
use Rattle.policy_core.specs.validate.Valid.{version_finding, version_findings}
use Rattle.policy_core.proofs.validate.JudgedLemmas.{filtered_more}
use Rattle.policy_core.proofs.validate.entries.tell_versions.Goals as goal

pub exceptions-preserved : goal.exceptions-preserved
exceptions-preserved c =
    let exceptions = c.args.exceptions.now in
    let version = to_z w32 (of_z w32 c.args.version) in
    let i = c.exceptions.exception-index in
    let exception = c.exception-item.result in
    let more : take i exceptions ++ exception ∷ [] ≡ take (i + 1) exceptions =
    ap (λ one. take i exceptions ++ one ∷ []) c.exception-item.is ∙ sym (take_more exceptions i exception c.exceptions-test.true) in
    filtered_more (version_finding version c.args.file) (take i exceptions) exception c.args.found.now c.exceptions.found c.tell_version.new.found
    c.in_ok-tell_version.ensures.ok c.exceptions.invariant
    ∙ ap (λ items. c.args.found.now ++ version_findings version c.args.file items) more
