use Rattle.std.proofs.Common.{Some, sym, ap, ◌∙◌, arith}
use Rattle.toml_value.specs.Lookup.{item_at}
use Rattle.toml_value.specs.Views.{value_view}
use Rattle.toml_value.specs.declared.value.Values.{out-Values}
use Rattle.toml_value.proofs.ValueViews.{values_view-is, item_at_within, item_at_past}
use Rattle.toml_value.proofs.value.Values.get.Goals as goal

pub returns-then-place-len : goal.returns-then-place-len
returns-then-place-len c =
    let items = (out-Values c.args.self.now).items in
    ap (λ v. Some (value_view v)) c.index.ensures
    ∙ item_at_within items.items c.args.place c.index.result.now (omega (arith, items.ok.0, c.len.ensures))
    ∙ ap (item_at c.args.place) (sym (values_view-is c.args.self.now))

pub returns-else-place-len : goal.returns-else-place-len
returns-else-place-len c =
    let items = (out-Values c.args.self.now).items in
    item_at_past items.items c.args.place (omega (arith, items.ok.0, c.len.ensures)) ∙ ap (item_at c.args.place) (sym (values_view-is c.args.self.now))
