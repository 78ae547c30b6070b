-- The path is read first, and the hash as if it were.
use Rattle.std.proofs.Common.{◌≡◌, ℕ, List, [], ◌∷◌, Ok, refl, sym, ap, subst, ◌∙◌}
use Rattle.std.specs.Prelude.{codes}
use Rattle.deny_text.specs.declared.span.Span.{Span}
use Rattle.deny_text.specs.declared.span.Spanned.{Spanned}
use Rattle.toml_subset.specs.shapes.Shaped.{ShapeReading, AnswersShape, TellsFaults, shaped_of, shaped_then}
use Rattle.toml_subset.specs.shapes.Shapes.{ShapeFault}
use Rattle.toml_subset.specs.Data.{Entries}
use Rattle.policy_toml.specs.HelperState.{state_of, without_key}
use Rattle.policy_toml.specs.Readings.{text_of, u32_of, spanned_of}
use Rattle.policy_toml.specs.rows.Rows.{required_value, shaped_by, table_faults}
use Rattle.policy_toml.proofs.rows.RowLemmas.{begun, finished}
use Rattle.policy_parts.specs.Values.{file_source_at}
use Rattle.policy_parts.specs.declared.file_source.FileSource.{FileSource}
use Rattle.policy_parts.proofs.NeededKeys.{needed_behind, refused_then}
use Rattle.policy_parts.proofs.file_source.FileSourceFromKeys.read_keys.Goals as goal

abbrev made : Spanned (List ℕ) → ℕ → FileSource
made path hash = record { path = path; hash = hash }

abbrev passed : List (List ℕ)
passed = codes "path" ∷ codes "hash" ∷ []

abbrev with_hash : Entries → Span → Spanned (List ℕ) → ℕ → ShapeReading FileSource
with_hash entries span path hash = shaped_by passed [] (λ _. made path hash) entries span

abbrev with_path : Entries → Span → Spanned (List ℕ) → ShapeReading FileSource
with_path entries span path = shaped_then (with_hash entries span path) (required_value (codes "hash") u32_of entries span)

-- behind a path
behind_path : (entries : Entries) (span : Span) (path : Spanned (List ℕ)) → required_value (codes "path") (spanned_of text_of) entries span ≡ Ok path
    → file_source_at entries span ≡ with_path entries span path
behind_path entries span path is = ap (shaped_then (with_path entries span)) is

pub returns-in-Err : goal.returns-in-Err
returns-in-Err g c =
    let state = state_of c.args.table in
    let none : state ≡ begun [] state.left state.span = ap (λ (faults : List ShapeFault). record { left = state.left; span = state.span; faults = faults }) c.requires in
    let one = c.in_ok-path.ensures.ok ∙ ap (without_key (codes "path")) none in
    let path = sym (needed_behind (codes "path") (spanned_of text_of) [] state.left state.span state refl none) ∙ c.in_ok-path.ensures.read in
    let hash = needed_behind (codes "hash") u32_of (codes "path" ∷ []) state.left state.span (state_of c.required.new.self) refl one in
    subst (λ r. TellsFaults r c.in-Err.error) (sym (behind_path state.left state.span c.in_ok-path.path path))
    (refused_then (with_hash state.left state.span c.in_ok-path.path) (required_value (codes "hash") u32_of state.left state.span) c.in-Err.error
    (subst (λ r. TellsFaults r c.in-Err.error) hash c.in-Err.ensures.read))

pub returns-in_ok-path-in-Ok : goal.returns-in_ok-path-in-Ok
returns-in_ok-path-in-Ok g c =
    let state = state_of c.args.table in
    let none : state ≡ begun [] state.left state.span = ap (λ (faults : List ShapeFault). record { left = state.left; span = state.span; faults = faults }) c.requires in
    let one = c.in_ok-path.ensures.ok ∙ ap (without_key (codes "path")) none in
    let two = c.in-Ok.ensures.ok ∙ ap (without_key (codes "hash")) one in
    let path = sym (needed_behind (codes "path") (spanned_of text_of) [] state.left state.span state refl none) ∙ c.in_ok-path.ensures.read in
    let hash = sym (needed_behind (codes "hash") u32_of (codes "path" ∷ []) state.left state.span (state_of c.required.new.self) refl one) ∙ c.in-Ok.ensures.read in
    let value = ap (λ (p : Spanned (List ℕ)). made p c.in-Ok.hash) c.in_ok-path-in-Ok.ensures in
    subst (λ r. AnswersShape r c.finish.result) (finished passed [] state.left state.span (state_of c.required-2.new.self) _ refl two
    ∙ ap (shaped_of (table_faults passed [] state.left state.span)) value
    ∙ sym (behind_path state.left state.span c.in_ok-path.path path ∙ ap (shaped_then (with_hash state.left state.span c.in_ok-path.path)) hash))
    c.finish.ensures
