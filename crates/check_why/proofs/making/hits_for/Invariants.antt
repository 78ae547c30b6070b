-- The ledger is the one that the call is given.
use Rattle.check_why.proofs.making.hits_for.Given as goal

abbrev pub ghosts-hits_by_ledger : goal.ghosts-hits_by_ledger
ghosts-hits_by_ledger a = record { name = a.ledger.name; parts = a.ledger.parts }
