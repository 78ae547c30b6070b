-- where there is no text, nothing is kept
use Rattle.policy_core.proofs.ExceptionLemmas.{no_more_entries}
use Rattle.policy_core.proofs.exceptions.take_exceptions.Goals as goal

pub returns-in-NoPath-clause-policy : goal.returns-in-NoPath-clause-policy
returns-in-NoPath-clause-policy g c = no_more_entries c.args.cfg.now

pub returns-in-ThePolicy-clause-policy : goal.returns-in-ThePolicy-clause-policy
returns-in-ThePolicy-clause-policy g c = no_more_entries c.args.cfg.now

pub returns-in-Err-clause-policy : goal.returns-in-Err-clause-policy
returns-in-Err-clause-policy g c = no_more_entries c.args.cfg.now
