-- The ledger is the one that the call is given.
use Rattle.tests_code.proofs.steps.counts_at_a_ledger_of_its_own.Given as goal

abbrev pub ghosts-count : goal.ghosts-count
ghosts-count a = record { name = a.ledger.name; parts = a.ledger.parts }
