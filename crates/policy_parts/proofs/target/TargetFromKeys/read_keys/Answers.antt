-- The triple is read first, and the features as if they were.
use Rattle.std.proofs.Common.{◌≡◌, ℕ, List, [], ◌∷◌, Option, refl, sym, ap, subst, ◌∙◌}
use Rattle.std.specs.Prelude.{codes, unwrap_or}
use Rattle.deny_text.specs.declared.span.Spanned.{Spanned}
use Rattle.toml_subset.specs.shapes.Shaped.{AnswersShape, shaped_of, shaped_then}
use Rattle.toml_subset.specs.shapes.Shapes.{ShapeFault}
use Rattle.toml_subset.specs.Data.{Entries}
use Rattle.policy_toml.specs.HelperState.{HelperState, state_of, without_key}
use Rattle.policy_toml.specs.Readings.{text_of, list_of, spanned_of}
use Rattle.policy_toml.specs.rows.Rows.{KeyRow, key, optional_value, shaped_by, table_faults}
use Rattle.policy_toml.proofs.rows.RowLemmas.{after_row, begun, field, finished}
use Rattle.policy_parts.specs.declared.target.Target.{Target}
use Rattle.policy_parts.proofs.NeededKeys.{needed_behind}
use Rattle.policy_parts.proofs.target.TargetFromKeys.read_keys.Goals as goal

abbrev made : Spanned (List ℕ) → List (List ℕ) → Target
made filter features = record { filter = filter; features = features }

abbrev passed : List (List ℕ)
passed = codes "triple" ∷ []

abbrev rows : List KeyRow
rows = key (codes "features") (list_of text_of) ∷ []

abbrev features_in : Entries → List (List ℕ)
features_in entries = unwrap_or (optional_value (codes "features") (list_of text_of) entries) []

pub returns : goal.returns
returns g c =
    let state = state_of c.args.table in
    let none : state ≡ begun [] state.left state.span = ap (λ (faults : List ShapeFault). record { left = state.left; span = state.span; faults = faults }) c.requires in
    let one = c.in_ok-filter.ensures.ok ∙ ap (without_key (codes "triple")) none in
    let two = c.in_ok-features.ensures.after ∙ ap (after_row (key (codes "features") (list_of text_of))) one in
    let filter = sym (needed_behind (codes "triple") (spanned_of text_of) [] state.left state.span state refl none) ∙ c.in_ok-filter.ensures.read in
    let features = field (codes "features") (list_of text_of) passed state.left (state_of c.required.new.self) c.in_ok-features.features refl
    (ap (λ (s : HelperState). s.left) one) c.in_ok-features.ensures.read in
    let value = ap (made c.in_ok-filter.filter) (c.or_empty-features.ensures ∙ ap (λ (o : Option (List (List ℕ))). unwrap_or o []) features) in
    subst (λ r. AnswersShape r c.finish.result) (finished passed rows state.left state.span (state_of c.optional.new.self) _ refl two
    ∙ ap (shaped_of (table_faults passed rows state.left state.span)) value
    ∙ sym (ap (shaped_then (λ (filter : Spanned (List ℕ)). shaped_by passed rows (λ entries. made filter (features_in entries)) state.left state.span)) filter))
    c.finish.ensures
