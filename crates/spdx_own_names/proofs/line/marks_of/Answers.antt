use Rattle.std.proofs.Common.{◌∙◌}
use Rattle.spdx_own_names.proofs.NumberLemmas.{marks_found}
use Rattle.spdx_own_names.proofs.line.marks_of.Goals as goal

pub returns : goal.returns
returns c = c.marks_among.ensures ∙ marks_found c.args.text.now
