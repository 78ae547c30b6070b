use Rattle.std.proofs.Common.{ap, ◌∙◌, rules, tests}
use Rattle.std.specs.List.{filter}
use Rattle.std.proofs.lemmas.Iterator.Consumers.{YieldsList-at, YieldsList-end}
use Rattle.std.proofs.lemmas.Iterator.Splits.{YieldsList-from_slice_split}
use Rattle.tree_core.specs.SystemNames.{names_entry}
use Rattle.tree_core.proofs.folder_tree.split_names.Goals as goal

pub returns-clause-names : goal.returns-clause-names
returns-clause-names c =
    let all = YieldsList-end (YieldsList-at c.into_iter-name-iterator.ensures.into_iter_gives (YieldsList-from_slice_split _ _ c.args.bytes.now c.split-name-items.ensures.rest c.split-name-items.ensures.done c.split-name-items.ensures.closure (λ x r q k. search (rules, tests)))) c.names.yielded _ c.names.yielded_by _ _ c.in-None.is c.next.ensures.steps in
    c.names.invariant ∙ ap (filter names_entry) all.0
