-- The ledger is the one that the call is given.
use Rattle.tests_check.proofs.judged.ask.Given as goal

abbrev pub ghosts-ask_twice : goal.ghosts-ask_twice
ghosts-ask_twice a = record { name = a.ledger.name; parts = a.ledger.parts }
