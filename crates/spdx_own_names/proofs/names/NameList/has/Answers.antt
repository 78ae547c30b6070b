use Rattle.std.proofs.Common.{◌∙◌, ap}
use Rattle.spdx_own_names.specs.File.{is_among}
use Rattle.spdx_own_names.proofs.IndexLemmas.{found_name}
use Rattle.spdx_own_names.proofs.names.NameList.has.Goals as goal

pub returns : goal.returns
returns c = c.is_some.ensures ∙ found_name _ _ c.args.name.now c.get.result c.self.invariant c.get.ensures ∙ ap (is_among c.args.name.now) c.self.view_is
