use Rattle.std.proofs.Common.{◌-◌, length}
use Rattle.spdx_core.specs.Machine.{machine_of}
use Rattle.spdx_core.proofs.ReadText.{ReadsOn}
use Rattle.spdx_core.proofs.read.read_text.Given as goal

-- faults and reading go on behind what was taken
abbrev pub invariant-items : goal.invariant-items
invariant-items g l = ReadsOn l.mode (g.C.Catalog.lists l.catalog) l.text l.place l.progress.wanted l.progress.opened (machine_of l.progress.reader)

abbrev pub decreases-items : goal.decreases-items
decreases-items g l = length l.text - l.place
