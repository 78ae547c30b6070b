-- The ledger is the one that the call is given.
use Rattle.run_record.proofs.verifying.verify_text.Given as goal

abbrev pub ghosts-verify_by_ledger : goal.ghosts-verify_by_ledger
ghosts-verify_by_ledger a = record { name = a.ledger.name; parts = a.ledger.parts }
