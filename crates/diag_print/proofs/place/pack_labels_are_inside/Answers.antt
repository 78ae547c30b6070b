use Rattle.std.proofs.Common.{rules}
use Rattle.std.specs.Iterator.Adapters.{IterYieldsInOrder}
use Rattle.std.proofs.iter.runs.Sources.{iter_runs}
use Rattle.diag_core.specs.declared.pack.Diag.{Diag}
use Rattle.diag_print.proofs.place.pack_labels_are_inside.Goals as goal

pub returns : goal.returns
returns c = let runs : IterYieldsInOrder Diag = iter_runs in search rules
