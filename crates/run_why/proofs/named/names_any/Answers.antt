use Rattle.std.proofs.Common.{◌∙◌, ap, map}
use Rattle.std.specs.List.{list_any}
use Rattle.graph_core.specs.Krate.{record_of}
use Rattle.graph_core.specs.selection.Choice.{exclude_spec_of, is_excluded}
use Rattle.run_why.proofs.NamedLemmas.{any_named}
use Rattle.run_why.proofs.named.names_any.Goals as goal

pub returns : goal.returns
returns c =
    c.name_any.ensures
    ∙ any_named (map exclude_spec_of c.items.result.now) c.args.crates.now
    ∙ ap (λ specs. list_any (is_excluded specs) (map record_of c.args.crates.now)) (ap (map exclude_spec_of) c.items.ensures ∙ c.in_ok-specs.ensures)
