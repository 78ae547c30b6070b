use Rattle.std.proofs.Common.{None, Some, refl}
use Rattle.check_notice.proofs.FindLemmas.{item_at}
use Rattle.check_notice.proofs.TermLemmas.{no_term_pushed, on_ok_all, term_pushed}
use Rattle.check_notice.proofs.used.push_term.Goals as goal

pub returns-in-Some : goal.returns-in-Some
returns-in-Some c =
    let there = item_at c.args.terms.now c.args.place (Some c.in-Some.term) c.in-Some.ensures.lookup in
    on_ok_all c.push.result _ _ (λ grown. term_pushed c.args.used.now c.push.new.self _ c.args.terms.now c.args.place c.in-Some.term.now grown refl there) c.push.ensures.ok

pub returns-in-None : goal.returns-in-None
returns-in-None c = no_term_pushed c.args.used.now c.args.terms.now c.args.place (item_at c.args.terms.now c.args.place None c.in-None.ensures.lookup)
