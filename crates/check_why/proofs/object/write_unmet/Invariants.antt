use Rattle.std.proofs.Common.{take}
use Rattle.check_why.specs.Object.{unmet_data}
use Rattle.diag_print.specs.JsonTokens.{Adds}
use Rattle.diag_print.proofs.JsonLemmas.{each_tokens}
use Rattle.check_why.proofs.object.write_unmet.Given as goal

-- those so far were written
abbrev pub invariant-unmet : goal.invariant-unmet
invariant-unmet l = Adds l.initial.out l.out (each_tokens unmet_data (take l.one-index l.unmet))
