use Rattle.std.proofs.Common.{take}
use Rattle.serde_json.specs.Data.{number, unsigned}
use Rattle.diag_print.specs.JsonTokens.{Adds}
use Rattle.diag_print.proofs.JsonLemmas.{each_tokens}
use Rattle.check_why.proofs.object.write_numbers.Given as goal

-- the numbers so far were written
abbrev pub invariant-numbers : goal.invariant-numbers
invariant-numbers l = Adds l.initial.out l.out (each_tokens (λ one_number. number (unsigned one_number)) (take l.number-index l.numbers))
