use Rattle.std.proofs.Common.{◌∙◌, ap}
use Rattle.check_core.specs.unused.Flags.{unused_pack}
use Rattle.check_core.proofs.unused.UnusedLemmas.{pack_is}
use Rattle.check_core.proofs.unused.unused.last_pack.Goals as goal

pub returns : goal.returns
returns g c hits is = c.in_ok-pack.ensures ∙ ap (unused_pack c.args.policy.now) is ∙ pack_is c.args.policy.now hits
