use Rattle.std.proofs.Common.{◌≡◌, ◌∙◌, ◌++◌, ap, map, subst, List, IfOk}
use Rattle.std.specs.List.{filter_map}
use Rattle.graph_core.specs.declared.selection.exclude.ExcludeSpec.{ExcludeSpec}
use Rattle.graph_core.specs.selection.Choice.{exclude_spec_of, spec_read}
use Rattle.run_why.specs.Named.{marks_of}
use Rattle.run_why.proofs.NamedLemmas.{marks_are}
use Rattle.run_why.proofs.named.named_marks.Goals as goal

pub returns : goal.returns
returns c =
    subst (λ marks. IfOk c.marks_by.result (λ made. made.items ≡ marks))
    (ap (λ specs. marks_of specs c.args.crates.now)
    (ap (map exclude_spec_of) c.items.ensures
    ∙ c.in_ok-read_specs.ensures.ok
    ∙ ap (λ (specs : List ExcludeSpec). map exclude_spec_of specs ++ filter_map spec_read c.args.words.now) c.new-specs.ensures)
    ∙ marks_are c.args.words.now c.args.crates.now)
    c.marks_by.ensures
