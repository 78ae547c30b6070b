-- The ledger is the one that the call is given.
use Rattle.tests_check.proofs.recorded.answer_of.Given as goal

abbrev pub ghosts-verified : goal.ghosts-verified
ghosts-verified a = record { name = a.ledger.name; parts = a.ledger.parts }
