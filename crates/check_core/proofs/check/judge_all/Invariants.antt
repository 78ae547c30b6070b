-- The ledger is the one that the call is given.
use Rattle.check_core.proofs.check.judge_all.Given as goal

abbrev pub ghosts-judge_by_ledger : goal.ghosts-judge_by_ledger
ghosts-judge_by_ledger a = record { name = a.ledger.name; parts = a.ledger.parts }
