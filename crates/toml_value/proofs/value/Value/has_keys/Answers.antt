use Rattle.std.proofs.Common.{not, eqb, sym, ap, ◌∙◌}
use Rattle.toml_subset.specs.Data as «data»
use Rattle.toml_value.specs.Views.{content_view}
use Rattle.toml_value.specs.Lookup.{has_entries}
use Rattle.toml_value.proofs.ValueViews.{entries_view-is, content_view-Table, value_view-content, has_entries-is}
use Rattle.toml_value.specs.declared.value.Entries.{out-Entries}
use Rattle.toml_value.proofs.value.Value.has_keys.Goals as goal

pub returns-in-Table : goal.returns-in-Table
returns-in-Table c =
    let inner = value_view-content c.args.self.now ∙ ap content_view c.in-Table.is ∙ content_view-Table c.in-Table.entries ∙ ap data.table (entries_view-is c.in-Table.entries) in
    let items = (out-Entries c.in-Table.entries).items in
    ap not c.is_empty.ensures ∙ sym (ap has_entries inner ∙ has_entries-is items.items ∙ ap (λ n. not (eqb n 0)) (sym items.ok.0))
