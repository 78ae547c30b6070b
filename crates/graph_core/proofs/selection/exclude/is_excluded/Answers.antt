use Rattle.std.proofs.Common.{◌∙◌, ◌||◌, ap, ap₂, ℕ, List, None, Some}
use Rattle.std.specs.List.{list_any}
use Rattle.std.specs.Ordering.{is_eq}
use Rattle.graph_core.specs.Krate.{CrateRecord, record_of}
use Rattle.graph_core.specs.selection.ExcludeOrder.{key_behind, key_order, key_with}
use Rattle.graph_core.proofs.selection.ExcludeLemmas.{excluded_from_finds}
use Rattle.graph_core.proofs.selection.exclude.is_excluded.Goals as goal

pub returns : goal.returns
returns c =
    let krate : CrateRecord = record_of c.args.krate.now in
    let refs = c.args.refs.now in
    ap₂ (λ any own. any || own) c.finds-any.ensures c.finds-own.ensures
    ∙ ap (λ (name : List ℕ). list_any (λ spec. is_eq (key_order (key_behind spec) (key_with name None))) refs || list_any (λ spec. is_eq (key_order (key_behind spec) (key_with name (Some krate.version)))) refs) c.as_str-name.ensures
    ∙ excluded_from_finds c.args.specs.now refs krate c.requires
