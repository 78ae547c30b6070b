use Rattle.std.proofs.Common.{◌∙◌, rules, Option}
use Rattle.std.specs.Prelude.{option_map}
use Rattle.std.specs.Borrow.{Bor}
use Rattle.std.specs.declared.cmp.Ordering.{Ordering}
use Rattle.std.proofs.lemmas.Fn.{always_returns_same}
use Rattle.semver.specs.Identifiers.{parts_of}
use Rattle.graph_core.specs.Krate.{Version}
use Rattle.graph_core.specs.declared.selection.exclude.ExcludeSpec.{ExcludeSpec}
use Rattle.graph_core.specs.selection.ExcludeOrder.{key_behind, key_order, key_with}
use Rattle.graph_core.proofs.selection.ExcludeLemmas.{any_from_search, sorted_rises}
use Rattle.graph_core.proofs.selection.exclude.finds.Goals as goal

pub returns : goal.returns
returns c =
    let wanted : Option Version = option_map (λ (version : Bor _). parts_of version.now) c.args.version in
    let key = key_with c.args.name.now wanted in
    let order : Bor ExcludeSpec → Ordering = λ spec. key_order (key_behind spec) key in
    let place = c.binary_search_by.ensures.position order (always_returns_same _ _ _ (λ a r f called. search rules)) in
    c.is_ok.ensures.value ∙ any_from_search order c.args.refs.now c.binary_search_by.result c.binary_search_by.ensures.bound place (sorted_rises c.args.refs.now key c.requires)
