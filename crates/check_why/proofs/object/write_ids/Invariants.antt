use Rattle.std.proofs.Common.{take}
use Rattle.serde_json.specs.Data.{string}
use Rattle.check_why.specs.declared.answer.CrateTitle.{CrateTitle}
use Rattle.diag_print.specs.JsonTokens.{Adds}
use Rattle.diag_print.proofs.JsonLemmas.{each_tokens}
use Rattle.check_why.proofs.object.write_ids.Given as goal

-- the ids so far were written
abbrev pub invariant-titles : goal.invariant-titles
invariant-titles l = Adds l.initial.out l.out (each_tokens (λ (title : CrateTitle). string title.id) (take l.title-index l.titles))
