-- The ledger is the one that the call is given.
use Rattle.tests_spdx.proofs.terms.satisfied.Given as goal

abbrev pub ghosts-is_satisfied : goal.ghosts-is_satisfied
ghosts-is_satisfied a = record { name = a.ledger.name; parts = a.ledger.parts }
