-- The faults are seen by their views.
use Rattle.std.proofs.Common.{◌∙◌, ap}
use Rattle.std.specs.List.{list_any}
use Rattle.toml_subset.specs.shapes.ShapeViews.{fault_of}
use Rattle.refusal_help.specs.Unknown.{is_unknown_fault}
use Rattle.refusal_help.proofs.ListLemmas.{list_any_map}
use Rattle.refusal_help.proofs.unknown.has_unknown_fault.Goals as goal

pub returns : goal.returns
returns c = c.any_unknown.ensures ∙ list_any_map is_unknown_fault fault_of c.items.result.now ∙ ap (list_any is_unknown_fault) c.items.ensures
