use Rattle.std.proofs.Common.{◌≡◌, None, option_and_then, sym, ap, ◌∙◌, arith}
use Rattle.std.proofs.lemmas.Str.Pattern.{split_once_first}
use Rattle.std.specs.List.{slice_split}
use Rattle.toml_value.specs.Lookup.{steps_to}
use Rattle.toml_value.specs.Views.{value_view}
use Rattle.toml_value.proofs.Paths.{is_slash, parts_first, parts_only, last_step}
use Rattle.toml_value.proofs.value.+walk.Goals as goal

pub returns-in_err-step-in-Some : goal.returns-in_err-step-in-Some
returns-in_err-step-in-Some t c =
    let cut = rw c.in-Some.is at (split_once_first 47 c.args.rest.now c.split_once.result c.split_once.ensures.cases (omega arith)) in
    let parts = parts_first c.args.rest.now c.in-Some.part.now c.in-Some.more.now cut.0 cut.1 cut.2 in
    let gone : c.from_residual.result ≡ None = grind arith in
    rw gone (sym (ap (λ ps. steps_to ps (value_view c.args.target.now)) parts
    ∙ ap (option_and_then (steps_to (slice_split is_slash c.in-Some.more.now))) (sym c.in_err-step-in-Some.ensures)))

pub returns-in_ok-step-in-Some : goal.returns-in_ok-step-in-Some
returns-in_ok-step-in-Some t c =
    let cut = rw c.in-Some.is at (split_once_first 47 c.args.rest.now c.split_once.result c.split_once.ensures.cases (omega arith)) in
    let parts = parts_first c.args.rest.now c.in-Some.part.now c.in-Some.more.now cut.0 cut.1 cut.2 in
    c.walk.ensures ∙ sym (ap (λ ps. steps_to ps (value_view c.args.target.now)) parts
    ∙ ap (option_and_then (steps_to (slice_split is_slash c.in-Some.more.now))) (sym c.in_ok-step-in-Some.ensures))

pub returns-in-None : goal.returns-in-None
returns-in-None t c =
    let none = rw c.in-None.is at (split_once_first 47 c.args.rest.now c.split_once.result c.split_once.ensures.cases (omega arith)) in
    c.step-in-None.ensures ∙ sym (ap (λ ps. steps_to ps (value_view c.args.target.now)) (parts_only c.args.rest.now none) ∙ last_step c.args.rest.now (value_view c.args.target.now))
