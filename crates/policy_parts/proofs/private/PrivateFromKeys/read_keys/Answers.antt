-- Each key is read as if it were the first, and so are the faults at the end.
use Rattle.std.proofs.Common.{◌≡◌, ℕ, Bool, false, List, [], ◌∷◌, Option, refl, ap, subst, ◌∙◌}
use Rattle.std.specs.Prelude.{codes, unwrap_or}
use Rattle.deny_text.specs.declared.span.Spanned.{Spanned}
use Rattle.toml_subset.specs.shapes.Shaped.{AnswersShape, shaped_of}
use Rattle.toml_subset.specs.shapes.Shapes.{ShapeFault}
use Rattle.policy_toml.specs.HelperState.{HelperState, state_of}
use Rattle.policy_toml.specs.Readings.{text_of, boolean_of, list_of, spanned_of}
use Rattle.policy_toml.specs.rows.Rows.{key, table_faults}
use Rattle.policy_toml.proofs.rows.RowLemmas.{after_row, begun, field, finished}
use Rattle.policy_parts.specs.Tables.{private_rows}
use Rattle.policy_parts.specs.declared.private.Private.{Private}
use Rattle.policy_parts.proofs.private.PrivateFromKeys.read_keys.Goals as goal

abbrev made : Bool → List (Spanned (List ℕ)) → List (List ℕ) → Private
made ignore sources registries = record { ignore = ignore; ignore_sources = sources; registries = registries }

same : (a b : Bool) (c d : List (Spanned (List ℕ))) (e f : List (List ℕ)) → a ≡ b → c ≡ d → e ≡ f → made a c e ≡ made b d f
same a b c d e f p q r = ap (λ x. made x c e) p ∙ ap (λ x. made b x e) q ∙ ap (λ x. made b d x) r

pub returns : goal.returns
returns g c =
    let state = state_of c.args.table in
    let none : state ≡ begun [] state.left state.span = ap (λ (faults : List ShapeFault). record { left = state.left; span = state.span; faults = faults }) c.requires in
    let one = c.in_ok-ignore.ensures.after ∙ ap (after_row (key (codes "ignore") boolean_of)) none in
    let two = c.in_ok-ignore_sources.ensures.after ∙ ap (after_row (key (codes "ignore-sources") (list_of (spanned_of text_of)))) one in
    let three = c.in_ok-registries.ensures.after ∙ ap (after_row (key (codes "registries") (list_of text_of))) two in
    let ignore = field (codes "ignore") boolean_of [] state.left state c.in_ok-ignore.ignore refl (ap (λ (s : HelperState). s.left) none)
    c.in_ok-ignore.ensures.read in
    let sources = field (codes "ignore-sources") (list_of (spanned_of text_of)) (codes "ignore" ∷ []) state.left (state_of c.optional.new.self)
    c.in_ok-ignore_sources.ignore_sources refl (ap (λ (s : HelperState). s.left) one) c.in_ok-ignore_sources.ensures.read in
    let registries = field (codes "registries") (list_of text_of) (codes "ignore" ∷ codes "ignore-sources" ∷ []) state.left (state_of c.optional-2.new.self)
    c.in_ok-registries.registries refl (ap (λ (s : HelperState). s.left) two) c.in_ok-registries.ensures.read in
    let value = same _ _ _ _ _ _ (c.unwrap_or.ensures ∙ ap (λ (o : Option Bool). unwrap_or o false) ignore)
    (c.or_empty.ensures ∙ ap (λ (o : Option (List (Spanned (List ℕ)))). unwrap_or o []) sources)
    (c.or_empty-2.ensures ∙ ap (λ (o : Option (List (List ℕ))). unwrap_or o []) registries) in
    subst (λ r. AnswersShape r c.finish.result) (finished [] private_rows state.left state.span (state_of c.optional-3.new.self) _ refl three
    ∙ ap (shaped_of (table_faults [] private_rows state.left state.span)) value) c.finish.ensures
