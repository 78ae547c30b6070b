use Rattle.std.proofs.Common.{◌≡◌, ap, ◌∙◌}
use Rattle.toml_subset.specs.Data as «data»
use Rattle.toml_subset.specs.Data.{TomlContent, Toml}
use Rattle.toml_value.specs.Lookup.{with_item}
use Rattle.toml_value.specs.Views.{value_view, values_view, entries_view}
use Rattle.toml_value.proofs.ValueViews.{content_view-Table, content_view-Array}
use Rattle.toml_value.proofs.tree.finish.into_array.Goals as goal

pub returns : goal.returns
returns c =
    let items = values_view c.args.items in
    let table : Toml = record { content = data.table (entries_view c.args.entries); span = c.args.last } in
    let item : value_view c.new.result ≡ table = c.new.ensures ∙ ap (λ (x : TomlContent). record { content = x; span = c.args.last }) (content_view-Table c.args.entries) in
    c.new-2.ensures ∙ ap (λ (x : TomlContent). record { content = x; span = c.args.span })
    (content_view-Array c.in_ok-all.all ∙ ap data.array (c.in_ok-all.ensures ∙ ap (with_item items) item))
