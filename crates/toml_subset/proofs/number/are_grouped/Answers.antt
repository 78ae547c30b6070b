use Rattle.std.proofs.Common.{arith}
use Rattle.toml_subset.proofs.Groups.{grouped_is}
use Rattle.toml_subset.proofs.number.are_grouped.Goals as goal

pub bytes-init : goal.bytes-init
bytes-init c = (omega arith, grouped_is c.args.base c.args.run.now)
