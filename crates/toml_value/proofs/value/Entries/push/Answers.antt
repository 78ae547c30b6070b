use Rattle.std.proofs.Common.{map, sym, ap, ◌∙◌}
use Rattle.toml_value.specs.Views.{value_view, entries_from_list}
use Rattle.toml_value.specs.Lookup.{with_entry}
use Rattle.toml_value.proofs.ValueViews.{entries_view-is, entries_view-roll, entries_of-push}
use Rattle.toml_value.proofs.value.Entries.push.Goals as goal

pub returns-clause-ok : goal.returns-clause-ok
returns-clause-ok c =
    entries_view-roll _ ∙ ap (λ xs. entries_from_list (map (λ p. (p.0, value_view p.1)) xs)) c.in_ok-push_pair.ensures.ok
    ∙ entries_of-push _ c.args.key c.args.value ∙ ap (λ xs. with_entry xs c.args.key (value_view c.args.value)) (sym (entries_view-is c.args.self.now))
