-- Each key is read as if it were the first, and so are the faults at the end.
use Rattle.std.proofs.Common.{◌≡◌, ℕ, Bool, false, List, [], ◌∷◌, Option, refl, ap, subst, ◌∙◌}
use Rattle.std.specs.Prelude.{codes, unwrap_or}
use Rattle.toml_subset.specs.Data.{Entries}
use Rattle.toml_subset.specs.shapes.Shaped.{AnswersShape, shaped_of}
use Rattle.toml_subset.specs.shapes.Shapes.{ShapeFault}
use Rattle.policy_toml.specs.HelperState.{HelperState, state_of}
use Rattle.policy_toml.specs.Readings.{text_of, boolean_of, list_of}
use Rattle.policy_toml.specs.rows.Rows.{key, table_faults}
use Rattle.policy_toml.proofs.rows.RowLemmas.{after_row, begun, field, finished}
use Rattle.policy_parts.specs.Tables.{graph_rows}
use Rattle.policy_parts.specs.Values.{target_of}
use Rattle.policy_parts.specs.declared.graph.GraphConfig.{GraphConfig}
use Rattle.policy_parts.specs.declared.target.Target.{Target}
use Rattle.policy_parts.proofs.graph.GraphConfigFromKeys.read_keys.Goals as goal

abbrev made : List Target → List (List ℕ) → List (List ℕ) → Bool → Bool → Bool → Bool → GraphConfig
made targets exclude features all no_default dev unpublished = record {
  targets = targets;
  exclude = exclude;
  features = features;
  all_features = all;
  no_default_features = no_default;
  exclude_dev = dev;
  exclude_unpublished = unpublished;
}

same : {t u : List Target} {a b c d : List (List ℕ)} {e f g h i j k l : Bool} → t ≡ u → a ≡ b → c ≡ d → e ≡ f → g ≡ h → i ≡ j → k ≡ l
    → made t a c e g i k ≡ made u b d f h j l
same {t} {u} {a} {b} {c} {d} {e} {f} {g} {h} {i} {j} {k} {l} o p q r s v w =
    ap (λ x. made x a c e g i k) o ∙ ap (λ x. made u x c e g i k) p ∙ ap (λ x. made u b x e g i k) q ∙ ap (λ x. made u b d x g i k) r
    ∙ ap (λ x. made u b d f x i k) s ∙ ap (λ x. made u b d f h x k) v ∙ ap (λ x. made u b d f h j x) w

-- a list and a flag that may be left out
list_is : {A : Type 0} {xs : List A} {o p : Option (List A)} → xs ≡ unwrap_or o [] → o ≡ p → xs ≡ unwrap_or p []
list_is is same = is ∙ ap (λ o. unwrap_or o []) same

flag_is : {b : Bool} {o p : Option Bool} → b ≡ unwrap_or o false → o ≡ p → b ≡ unwrap_or p false
flag_is is same = is ∙ ap (λ o. unwrap_or o false) same

abbrev left : HelperState → Entries
left state = state.left

pub returns : goal.returns
returns g c =
    let state = state_of c.args.table in
    let k0 : state ≡ begun [] state.left state.span = ap (λ (faults : List ShapeFault). record { left = state.left; span = state.span; faults = faults }) c.requires in
    let f1 = field (codes "targets") (list_of target_of) [] state.left state c.in_ok-targets.targets refl (ap left k0) c.in_ok-targets.ensures.read in
    let k1 = c.in_ok-targets.ensures.after ∙ ap (after_row (key (codes "targets") (list_of target_of))) k0 in
    let f2 = field (codes "exclude") (list_of text_of) (codes "targets" ∷ []) state.left (state_of c.optional.new.self) c.in_ok-exclude.exclude refl (ap left k1) c.in_ok-exclude.ensures.read in
    let k2 = c.in_ok-exclude.ensures.after ∙ ap (after_row (key (codes "exclude") (list_of text_of))) k1 in
    let f3 = field (codes "features") (list_of text_of) (codes "targets" ∷ codes "exclude" ∷ []) state.left (state_of c.optional-2.new.self) c.in_ok-features.features refl (ap left k2) c.in_ok-features.ensures.read in
    let k3 = c.in_ok-features.ensures.after ∙ ap (after_row (key (codes "features") (list_of text_of))) k2 in
    let f4 = field (codes "all-features") boolean_of (codes "targets" ∷ codes "exclude" ∷ codes "features" ∷ []) state.left (state_of c.optional-3.new.self) c.in_ok-all_features.all_features refl (ap left k3) c.in_ok-all_features.ensures.read in
    let k4 = c.in_ok-all_features.ensures.after ∙ ap (after_row (key (codes "all-features") boolean_of)) k3 in
    let f5 = field (codes "no-default-features") boolean_of (codes "targets" ∷ codes "exclude" ∷ codes "features" ∷ codes "all-features" ∷ []) state.left (state_of c.optional-4.new.self) c.in_ok-no_default_features.no_default_features refl (ap left k4) c.in_ok-no_default_features.ensures.read in
    let k5 = c.in_ok-no_default_features.ensures.after ∙ ap (after_row (key (codes "no-default-features") boolean_of)) k4 in
    let f6 = field (codes "exclude-dev") boolean_of (codes "targets" ∷ codes "exclude" ∷ codes "features" ∷ codes "all-features" ∷ codes "no-default-features" ∷ []) state.left (state_of c.optional-5.new.self) c.in_ok-exclude_dev.exclude_dev refl (ap left k5) c.in_ok-exclude_dev.ensures.read in
    let k6 = c.in_ok-exclude_dev.ensures.after ∙ ap (after_row (key (codes "exclude-dev") boolean_of)) k5 in
    let f7 = field (codes "exclude-unpublished") boolean_of (codes "targets" ∷ codes "exclude" ∷ codes "features" ∷ codes "all-features" ∷ codes "no-default-features" ∷ codes "exclude-dev" ∷ []) state.left (state_of c.optional-6.new.self) c.in_ok-exclude_unpublished.exclude_unpublished refl (ap left k6) c.in_ok-exclude_unpublished.ensures.read in
    let k7 = c.in_ok-exclude_unpublished.ensures.after ∙ ap (after_row (key (codes "exclude-unpublished") boolean_of)) k6 in
    let value = same (list_is c.or_empty.ensures f1) (list_is c.or_empty-2.ensures f2) (list_is c.or_empty-3.ensures f3) (flag_is c.unwrap_or.ensures f4)
    (flag_is c.unwrap_or-2.ensures f5) (flag_is c.unwrap_or-3.ensures f6) (flag_is c.unwrap_or-4.ensures f7) in
    subst (λ r. AnswersShape r c.finish.result) (finished [] graph_rows state.left state.span (state_of c.optional-7.new.self) _ refl k7
    ∙ ap (shaped_of (table_faults [] graph_rows state.left state.span)) value) c.finish.ensures
