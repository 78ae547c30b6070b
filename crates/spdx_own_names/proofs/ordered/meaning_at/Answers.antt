use Rattle.std.proofs.Common.{take, ap, ◌∙◌}
use Rattle.spdx_own_names.proofs.OrderLemmas.{means_none, none_weaker}
use Rattle.spdx_own_names.proofs.ordered.meaning_at.Goals as goal

pub returns-clause-none : goal.returns-clause-none
returns-clause-none c = none_weaker c.name_of.result _ _ (means_none (c.split_at.ensures.front ∙ ap (take c.args.len) c.as_bytes.ensures.value)) c.name_of.ensures.none
