use Rattle.std.proofs.Common.{◌∙◌}
use Rattle.check_core.proofs.unused.FlagLemmas.{unset_is}
use Rattle.check_core.proofs.unused.encountered.unset.Goals as goal

pub returns : goal.returns
returns c = c.in_ok-flags.ensures.items_if_clones_equal (λ y same. same) ∙ unset_is c.args.count
