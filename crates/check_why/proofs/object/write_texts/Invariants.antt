use Rattle.std.proofs.Common.{take}
use Rattle.serde_json.specs.Data.{string}
use Rattle.diag_print.specs.JsonTokens.{Adds}
use Rattle.diag_print.proofs.JsonLemmas.{each_tokens}
use Rattle.check_why.proofs.object.write_texts.Given as goal

-- the texts so far were written
abbrev pub invariant-texts : goal.invariant-texts
invariant-texts l = Adds l.initial.out l.out (each_tokens string (take l.text-index l.texts))
