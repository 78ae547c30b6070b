-- The keys that were moved are read behind the table.
use Rattle.std.proofs.Common.{List, ◌++◌, ap, ◌∙◌}
use Rattle.std.specs.Prelude.{codes, unwrap_or}
use Rattle.deny_text.specs.declared.span.Span.{Span}
use Rattle.toml_subset.specs.Data.{Entries}
use Rattle.policy_toml.specs.HelperState.{HelperState, after_optional}
use Rattle.policy_parts.specs.Tables.{graph_config_of}
use Rattle.policy_core.specs.config.OpenTable.{open_state, behind_rows}
use Rattle.policy_core.specs.config.Places.{places_of_keys}
use Rattle.policy_core.specs.config.Root.{no_graph, moved_in, moved_keys, moved_rows, with_moved}
use Rattle.policy_core.proofs.config.root.read_graph.Goals as goal

abbrev left : HelperState → Entries
left state = state.left

pub returns-clause-graph : goal.returns-clause-graph
returns-clause-graph c =
    let behind = after_optional (codes "graph") graph_config_of (open_state c.args.table.now) in
    c.with_moved.ensures
    ∙ ap (λ keys. with_moved keys c.or_no_graph.result) (c.in_ok-moved.ensures.keys ∙ ap moved_in (ap left c.in_ok-graph.ensures.after))
    ∙ ap (with_moved (moved_in behind.left)) (c.or_no_graph.ensures ∙ ap (λ own. unwrap_or own no_graph) c.in_ok-graph.ensures.value)

pub returns-clause-places : goal.returns-clause-places
returns-clause-places c =
    c.in_ok-moved.ensures.places
    ∙ ap (λ (spans : List Span). spans ++ places_of_keys moved_keys (open_state c.optional.new.self).left) c.new-places.ensures
    ∙ ap (places_of_keys moved_keys) (ap left c.in_ok-graph.ensures.after)

pub returns-clause-after : goal.returns-clause-after
returns-clause-after c = c.in_ok-moved.ensures.after ∙ ap (behind_rows moved_rows) c.in_ok-graph.ensures.after
