use Rattle.std.proofs.Common.{sym}
use Rattle.check_notice.proofs.PlaceLemmas.{both_ok, new_number, with_old, with_other}
use Rattle.check_notice.proofs.numbers.TextNumbers.with.Goals as goal

pub returns-in-Some-clause-texts : goal.returns-in-Some-clause-texts
returns-in-Some-clause-texts c = with_old c.args.self c.args.text.now c.in-Some.place (sym c.in-Some.ensures)

pub returns-in-None-clause-texts : goal.returns-in-None-clause-texts
returns-in-None-clause-texts c = both_ok c.with_new.result _ _ _ (λ numbered texts number. with_other c.args.self c.args.text.now numbered.numbers (sym c.in-None.ensures) texts) c.with_new.ensures.texts c.with_new.ensures.number

pub returns-in-None-clause-number : goal.returns-in-None-clause-number
returns-in-None-clause-number c =
    both_ok c.with_new.result _ _ _ (λ numbered texts number. new_number c.args.self c.args.text.now numbered.numbers numbered.number (sym c.in-None.ensures) texts number) c.with_new.ensures.texts c.with_new.ensures.number
