use Rattle.std.proofs.Common.{map, sym, ap, ◌∙◌}
use Rattle.toml_value.specs.Views.{value_view, items_from_list}
use Rattle.toml_value.specs.Lookup.{with_item}
use Rattle.toml_value.proofs.ValueViews.{values_view-is, values_view-roll, items_of-push}
use Rattle.std.proofs.lemmas.List.{map-append}
use Rattle.toml_value.proofs.value.Values.push.Goals as goal

pub returns-clause-ok : goal.returns-clause-ok
returns-clause-ok c =
    values_view-roll _ ∙ ap (λ xs. items_from_list (map (λ x. value_view x) xs)) c.in_ok-push_item.ensures.ok
    ∙ rw map-append (items_of-push _ (value_view c.args.item)) ∙ ap (λ xs. with_item xs (value_view c.args.item)) (sym (values_view-is c.args.self.now))
