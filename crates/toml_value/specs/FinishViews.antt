-- What a table comes to, entry by entry.
use Rattle.std.specs.Prelude.{List, map}
use Rattle.deny_text.specs.declared.span.Span.{Span}
use Rattle.toml_subset.specs.Data as «data»
use Rattle.toml_subset.specs.Data.{Entries, Items, Toml}
use Rattle.toml_subset.specs.Tables.{Branches, entries_of}
use Rattle.toml_subset.specs.declared.string.Key.{Key}
use Rattle.toml_value.specs.BranchViews.{branches_of_lists, node_view}
use Rattle.toml_value.specs.Lookup.{with_item}
use Rattle.toml_value.specs.declared.tree.Node.{Node as NodeOf}

-- entries, and others behind them
abbrev pub joined_entries : Entries → Entries → Entries
joined_entries data.no_entry others = others
joined_entries (data.entry key span content more) others = data.entry key span content (joined_entries more others)

-- what some keys and nodes of a table come to
abbrev pub left_of : List Key → List NodeOf → Entries
left_of keys nodes = entries_of (branches_of_lists keys (map (λ n. node_view n) nodes))

-- a table of an array of tables as an item
abbrev pub item_of : Span × Branches → Toml
item_of body = record { content = data.table (entries_of body.1); span = body.0 }

-- an array of some items and a last one, a table
abbrev pub array_with : Span → Items → Span → Entries → Toml
array_with span items last entries =
    record {
      content = data.array (with_item items (record { content = data.table entries; span = last }));
      span = span;
    }
