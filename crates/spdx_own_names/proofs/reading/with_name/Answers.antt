use Rattle.std.proofs.Common.{◌++◌, Some, None, append-nil, ap, sym, ◌∙◌}
use Rattle.std.proofs.lemmas.Result.{IfOk-weaker}
use Rattle.spdx_own_names.specs.FormView.{form_view}
use Rattle.spdx_own_names.proofs.ListsLemmas.{names_in-one}
use Rattle.spdx_own_names.proofs.reading.with_name.Goals as goal

pub returns-in-Some : goal.returns-in-Some
returns-in-Some c =
    IfOk-weaker c.with_license.result _ _ (λ new is. is ∙ ap (λ more. c.args.names ++ more) (names_in-one c.args.line.now (Some (form_view c.in-Some.form)) c.in-Some.ensures)) c.with_license.ensures

pub returns-in-None : goal.returns-in-None
returns-in-None c = sym (append-nil c.args.names) ∙ ap (λ more. c.args.names ++ more) (names_in-one c.args.line.now None c.in-None.ensures)
