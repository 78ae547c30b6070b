use Rattle.std.proofs.Common.{◌∙◌, ◌++◌, ap, map, List, [], ◌∷◌}
use Rattle.std.specs.List.{filter_map}
use Rattle.graph_core.specs.declared.selection.exclude.ExcludeSpec.{ExcludeSpec}
use Rattle.graph_core.specs.selection.Choice.{exclude_spec_of, read_one, spec_read}
use Rattle.run_why.proofs.NamedLemmas.{read_alone}
use Rattle.run_why.proofs.named.specs_of.Goals as goal

pub returns : goal.returns
returns c =
    c.in_ok-read_specs.ensures.ok
    ∙ ap (λ (specs : List ExcludeSpec). map exclude_spec_of specs ++ filter_map spec_read (c.in_ok-text.text ∷ [])) c.new-specs.ensures
    ∙ read_alone c.in_ok-text.text
    ∙ ap read_one (c.in_ok-text.ensures ∙ c.as_str.ensures)
