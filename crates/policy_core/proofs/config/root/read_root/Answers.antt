-- Each key is read as if it were the first, and so are the faults at the end.
use Rattle.std.proofs.Common.{◌≡◌, ℕ, List, [], ◌∷◌, Option, refl, ap, subst, ◌∙◌}
use Rattle.std.specs.Prelude.{codes, unwrap_or}
use Rattle.deny_text.specs.declared.span.Span.{Span}
use Rattle.toml_subset.specs.Data.{Entries}
use Rattle.toml_subset.specs.shapes.Shaped.{AnswersShape, shaped_of}
use Rattle.toml_subset.specs.shapes.Shapes.{ShapeFault}
use Rattle.policy_toml.specs.HelperState.{HelperState, optional_of}
use Rattle.policy_toml.specs.Readings.{u32_of}
use Rattle.policy_toml.specs.rows.Rows.{key, passed_key, optional_value, table_faults}
use Rattle.policy_toml.proofs.rows.RowLemmas.{after_row, begun, field, finished, passed_row, passed_span}
use Rattle.policy_parts.specs.Tables.{graph_config_of, output_of}
use Rattle.policy_parts.specs.declared.graph.GraphConfig.{GraphConfig}
use Rattle.policy_parts.specs.declared.output.OutputConfig.{OutputConfig}
use Rattle.policy_core.specs.config.Config.{config_of}
use Rattle.policy_core.specs.config.OpenTable.{open_state, behind_rows}
use Rattle.policy_core.specs.config.Places.{places_of_keys}
use Rattle.policy_core.specs.config.Root.{root_rows, no_graph, no_output, moved_in, moved_keys, moved_rows, with_moved, with_depth}
use Rattle.policy_core.specs.declared.config.config.Config.{Config}
use Rattle.policy_core.specs.declared.config.root.RootConfig.{RootConfig}
use Rattle.policy_core.proofs.config.RootLemmas.{moved_behind, places_behind}
use Rattle.policy_core.proofs.config.root.read_root.Goals as goal

abbrev made : Option Config → GraphConfig → OutputConfig → List Span → Option Span → RootConfig
made licenses graph output places place = record {
  licenses = licenses;
  graph = graph;
  output = output;
  graph_deprecated = places;
  output_deprecated = place;
}

same : {l l' : Option Config} {g g' : GraphConfig} {o o' : OutputConfig} {s s' : List Span} {p p' : Option Span} → l ≡ l' → g ≡ g' → o ≡ o' → s ≡ s' → p ≡ p'
    → made l g o s p ≡ made l' g' o' s' p'
same {l} {l'} {g} {g'} {o} {o'} {s} {s'} {p} {p'} e0 e1 e2 e3 e4 =
    ap (λ x. made x g o s p) e0
    ∙ ap (λ x. made l' x o s p) e1
    ∙ ap (λ x. made l' g' x s p) e2
    ∙ ap (λ x. made l' g' o' x p) e3
    ∙ ap (λ x. made l' g' o' s' x) e4

abbrev left : HelperState → Entries
left state = state.left

-- the keys that are read before `output`
abbrev moved_passed : List (List ℕ)
moved_passed = codes "advisories" ∷ codes "bans" ∷ codes "sources" ∷ codes "licenses" ∷ codes "graph" ∷ moved_keys

abbrev depth_passed : List (List ℕ)
depth_passed = codes "advisories" ∷ codes "bans" ∷ codes "sources" ∷ codes "licenses" ∷ codes "graph" ∷ codes "targets" ∷ codes "exclude" ∷ codes "features"
    ∷ codes "all-features" ∷ codes "no-default-features" ∷ codes "exclude-dev" ∷ codes "output" ∷ []

pub returns : goal.returns
returns g c =
    let lists = g.C.Catalog.lists c.args.catalog.now in
    let state = open_state c.args.table in
    let k0 : state ≡ begun [] state.left state.span = ap (λ (faults : List ShapeFault). record { left = state.left; span = state.span; faults = faults }) c.requires in
    let k1 = c.pass_over.ensures ∙ passed_row (codes "advisories") state ∙ ap (after_row (passed_key (codes "advisories"))) k0 in
    let k2 = c.pass_over-2.ensures ∙ passed_row (codes "bans") (open_state c.pass_over.new.self) ∙ ap (after_row (passed_key (codes "bans"))) k1 in
    let k3 = c.pass_over-3.ensures ∙ passed_row (codes "sources") (open_state c.pass_over-2.new.self) ∙ ap (after_row (passed_key (codes "sources"))) k2 in
    let licenses = field (codes "licenses") (config_of lists) (codes "advisories" ∷ codes "bans" ∷ codes "sources" ∷ []) state.left (open_state c.pass_over-3.new.self) c.in_ok-licenses.licenses refl (ap left k3) c.in_ok-licenses.ensures.value in
    let k4 = c.in_ok-licenses.ensures.after ∙ ap (after_row (key (codes "licenses") (config_of lists))) k3 in
    let own_graph = field (codes "graph") graph_config_of (codes "advisories" ∷ codes "bans" ∷ codes "sources" ∷ codes "licenses" ∷ []) state.left (open_state c.optional.new.self) (optional_of (codes "graph") graph_config_of (open_state c.optional.new.self)) refl (ap left k4) refl in
    let k5 = ap (after_row (key (codes "graph") graph_config_of)) k4 in
    let moved = ap moved_in (ap left k5) ∙ moved_behind state.left in
    let places = c.in_ok-graph.ensures.places ∙ ap (places_of_keys moved_keys) (ap left k5) ∙ places_behind state.left in
    let k6 = c.in_ok-graph.ensures.after ∙ ap (behind_rows moved_rows) k5 in
    let own_output = field (codes "output") output_of moved_passed state.left (open_state c.read_graph.new.table) c.in_ok-output.output refl (ap left k6) c.in_ok-output.ensures.value in
    let k7 = c.in_ok-output.ensures.after ∙ ap (after_row (key (codes "output") output_of)) k6 in
    let depth = field (codes "feature-depth") u32_of depth_passed state.left (open_state c.optional-2.new.self) c.in_ok-depth.depth.value refl (ap left k7) c.in_ok-depth.ensures.value in
    let place = c.in_ok-depth.ensures.place ∙ passed_span (codes "feature-depth") depth_passed state.left (open_state c.optional-2.new.self) refl (ap left k7) in
    let k8 = c.in_ok-depth.ensures.after ∙ ap (after_row (key (codes "feature-depth") u32_of)) k7 in
    let graph = c.in_ok-graph.ensures.graph
    ∙ ap (λ keys. with_moved keys (unwrap_or (optional_of (codes "graph") graph_config_of (open_state c.optional.new.self)) no_graph)) moved
    ∙ ap (with_moved (moved_in state.left)) (ap (λ own. unwrap_or own no_graph) own_graph) in
    let output = c.with_depth.ensures ∙ ap (λ found. with_depth found (unwrap_or c.in_ok-output.output no_output)) depth
    ∙ ap (λ own. with_depth (optional_value (codes "feature-depth") u32_of state.left) (unwrap_or own no_output)) own_output in
    let value = same licenses graph output places place in
    subst (λ r. AnswersShape r c.finish.result) (finished [] (root_rows lists) state.left state.span (open_state c.placed.new.self) _ refl k8
    ∙ ap (shaped_of (table_faults [] (root_rows lists) state.left state.span)) value) c.finish.ensures
