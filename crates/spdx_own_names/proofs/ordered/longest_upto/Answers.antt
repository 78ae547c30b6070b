use Rattle.spdx_own_names.proofs.OrderLemmas.{upto_none}
use Rattle.spdx_own_names.proofs.ordered.longest_upto.Goals as goal

pub returns-in-None-clause-none : goal.returns-in-None-clause-none
returns-in-None-clause-none c = upto_none c.args.ordered.now c.args.text.now c.args.most c.last_upto-len.result c.last_upto-len.ensures c.in-None.ensures.none
