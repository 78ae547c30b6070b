-- where nothing is read, nothing is kept
use Rattle.policy_core.proofs.ExceptionLemmas.{no_more_entries}
use Rattle.policy_core.proofs.exceptions.keep_or_tell.Goals as goal

pub returns-in_err-diag-in-Err-Syntax-clause-policy : goal.returns-in_err-diag-in-Err-Syntax-clause-policy
returns-in_err-diag-in-Err-Syntax-clause-policy g c = no_more_entries c.args.cfg.now

pub returns-in_ok-diag-in-Err-Syntax-clause-policy : goal.returns-in_ok-diag-in-Err-Syntax-clause-policy
returns-in_ok-diag-in-Err-Syntax-clause-policy g c = no_more_entries c.args.cfg.now

pub returns-in-Err-Shape-clause-policy : goal.returns-in-Err-Shape-clause-policy
returns-in-Err-Shape-clause-policy g c = no_more_entries c.args.cfg.now

pub returns-in-Err-Memory-clause-policy : goal.returns-in-Err-Memory-clause-policy
returns-in-Err-Memory-clause-policy g c = no_more_entries c.args.cfg.now
