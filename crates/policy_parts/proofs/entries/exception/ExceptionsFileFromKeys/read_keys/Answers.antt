-- `exceptions` is read first, and the clarifications as if they were.
use Rattle.std.proofs.Common.{◌≡◌, ℕ, List, [], ◌∷◌, Option, refl, sym, ap, subst, ◌∙◌}
use Rattle.std.specs.Prelude.{codes, unwrap_or}
use Rattle.toml_subset.specs.shapes.Shaped.{AnswersShape, shaped_of, shaped_then}
use Rattle.toml_subset.specs.shapes.Shapes.{ShapeFault}
use Rattle.policy_toml.specs.HelperState.{HelperState, state_of, without_key}
use Rattle.policy_toml.specs.Readings.{list_of}
use Rattle.policy_toml.specs.rows.Rows.{key, shaped_by, table_faults}
use Rattle.policy_toml.proofs.rows.RowLemmas.{after_row, begun, field, finished}
use Rattle.policy_parts.specs.entries.Clarifications.{clarification_of}
use Rattle.policy_parts.specs.entries.Exceptions.{exceptions_file_in, exceptions_file_rows, exceptions_of}
use Rattle.policy_parts.specs.declared.entries.clarification.Clarification.{Clarification}
use Rattle.policy_parts.specs.declared.entries.exception.Exception.{Exception}
use Rattle.policy_parts.specs.declared.entries.exception.ExceptionsFile.{ExceptionsFile}
use Rattle.policy_parts.proofs.NeededKeys.{needed_behind}
use Rattle.policy_parts.proofs.entries.exception.ExceptionsFileFromKeys.read_keys.Goals as goal

abbrev made : List Exception → List Clarification → ExceptionsFile
made exceptions clarify = record { exceptions = exceptions; clarify = clarify }

abbrev passed : List (List ℕ)
passed = codes "exceptions" ∷ []

pub returns : goal.returns
returns g c =
    let lists = g.C.Catalog.lists c.args.catalog.now in
    let state = state_of c.args.table in
    let none : state ≡ begun [] state.left state.span = ap (λ (faults : List ShapeFault). record { left = state.left; span = state.span; faults = faults }) c.requires in
    let one = c.in_ok-exceptions.ensures.ok ∙ ap (without_key (codes "exceptions")) none in
    let two = c.in_ok-clarify.ensures.after ∙ ap (after_row (key (codes "clarify") (list_of clarification_of))) one in
    let exceptions = sym (needed_behind (codes "exceptions") (exceptions_of lists) [] state.left state.span state refl none) ∙ c.in_ok-exceptions.ensures.read in
    let clarify = field (codes "clarify") (list_of clarification_of) passed state.left (state_of c.required.new.self) c.in_ok-clarify.clarify refl
    (ap (λ (s : HelperState). s.left) one) c.in_ok-clarify.ensures.read in
    let value = ap (made c.in_ok-exceptions.exceptions) (c.or_empty.ensures ∙ ap (λ (read : Option (List Clarification)). unwrap_or read []) clarify) in
    subst (λ r. AnswersShape r c.finish.result) (finished passed exceptions_file_rows state.left state.span (state_of c.optional.new.self) _ refl two
    ∙ ap (shaped_of (table_faults passed exceptions_file_rows state.left state.span)) value
    ∙ sym (ap (shaped_then (λ (read : List Exception). shaped_by passed exceptions_file_rows (exceptions_file_in read) state.left state.span)) exceptions))
    c.finish.ensures
