-- `allow` is read first, and the files as if they were.
use Rattle.std.proofs.Common.{◌≡◌, ℕ, List, [], ◌∷◌, Option, refl, sym, ap, subst, ◌∙◌}
use Rattle.std.specs.Prelude.{codes}
use Rattle.toml_subset.specs.shapes.Shaped.{AnswersShape, shaped_of, shaped_then}
use Rattle.toml_subset.specs.shapes.Shapes.{ShapeFault}
use Rattle.policy_toml.specs.HelperState.{HelperState, state_of, without_key}
use Rattle.policy_toml.specs.Readings.{list_of}
use Rattle.policy_toml.specs.rows.Rows.{key, shaped_by, table_faults}
use Rattle.policy_toml.proofs.rows.RowLemmas.{after_row, begun, field, finished}
use Rattle.policy_parts.specs.Values.{file_source_of}
use Rattle.policy_parts.specs.entries.Exceptions.{exception_rows, excepted_in}
use Rattle.policy_parts.specs.entries.Licensees.{licensees_of}
use Rattle.policy_parts.specs.declared.entries.exception.ExceptionLicenses.{ExceptionLicenses}
use Rattle.policy_parts.specs.declared.entries.licensee.Licensee.{Licensee}
use Rattle.policy_parts.specs.declared.file_source.FileSource.{FileSource}
use Rattle.policy_parts.proofs.NeededKeys.{needed_behind}
use Rattle.policy_parts.proofs.entries.exception.ExceptionLicensesFromKeys.read_keys.Goals as goal

abbrev made : List Licensee → Option (List FileSource) → ExceptionLicenses
made allow files = record { allow = allow; license_files = files }

abbrev passed : List (List ℕ)
passed = codes "allow" ∷ []

pub returns : goal.returns
returns g c =
    let lists = g.C.Catalog.lists c.args.catalog.now in
    let state = state_of c.args.table in
    let none : state ≡ begun [] state.left state.span = ap (λ (faults : List ShapeFault). record { left = state.left; span = state.span; faults = faults }) c.requires in
    let one = c.in_ok-allow.ensures.ok ∙ ap (without_key (codes "allow")) none in
    let two = c.in_ok-license_files.ensures.after ∙ ap (after_row (key (codes "license-files") (list_of file_source_of))) one in
    let allow = sym (needed_behind (codes "allow") (licensees_of lists) [] state.left state.span state refl none) ∙ c.in_ok-allow.ensures.read in
    let files = field (codes "license-files") (list_of file_source_of) passed state.left (state_of c.required.new.self) c.in_ok-license_files.license_files refl
    (ap (λ (s : HelperState). s.left) one) c.in_ok-license_files.ensures.read in
    let value = ap (made c.in_ok-allow.allow) files in
    subst (λ r. AnswersShape r c.finish.result) (finished passed exception_rows state.left state.span (state_of c.optional.new.self) _ refl two
    ∙ ap (shaped_of (table_faults passed exception_rows state.left state.span)) value
    ∙ sym (ap (shaped_then (λ (allowed : List Licensee). shaped_by passed exception_rows (excepted_in allowed) state.left state.span)) allow))
    c.finish.ensures
