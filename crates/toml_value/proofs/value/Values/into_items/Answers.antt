use Rattle.std.proofs.Common.{sym, ap, ◌∙◌}
use Rattle.toml_value.specs.Taken.{values_of}
use Rattle.toml_value.proofs.RemovalLemmas.{values_of-list}
use Rattle.toml_value.proofs.ValueViews.{values_view-is}
use Rattle.toml_value.proofs.value.Values.into_items.Goals as goal

pub returns : goal.returns
returns c = values_of-list _ ∙ ap values_of (sym (values_view-is c.args.self))
