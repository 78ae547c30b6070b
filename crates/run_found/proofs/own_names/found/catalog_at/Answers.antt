use Rattle.run_found.specs.own_names.Found.{listing_answer}
use Rattle.run_found.proofs.own_names.HeardLemmas.{absent_read, failed_read, file_read, folder_read, lost_read}
use Rattle.run_found.proofs.own_names.found.catalog_at.Goals as goal

pub returns-in-Ok-clause-read : goal.returns-in-Ok-clause-read
returns-in-Ok-clause-read g c = λ given. file_read given c.args.path.now c.in-Ok.bytes (listing_answer c.listing_of.result) c.in-Ok.ensures.traced c.listing_of.ensures

pub returns-in-Err-Absent-clause-read : goal.returns-in-Err-Absent-clause-read
returns-in-Err-Absent-clause-read g c = λ given. absent_read given c.args.path.now c.in-Err-Absent.field-0 c.in-Err-Absent.field-0-is c.in-Err-Absent.ensures.traced

pub returns-in-Err-WrongKind-clause-read : goal.returns-in-Err-WrongKind-clause-read
returns-in-Err-WrongKind-clause-read g c = λ given. folder_read given c.args.path.now c.in-Err-WrongKind.field-0 c.in-Err-WrongKind.field-0-is c.in-Err-WrongKind.ensures.traced

pub returns-in-Err-Failed-clause-read : goal.returns-in-Err-Failed-clause-read
returns-in-Err-Failed-clause-read g c = λ given.
    failed_read given c.args.path.now c.in-Err-Failed.field-0 c.faults-before.result c.faults.result c.in-Err-Failed.field-0-is c.faults-before.ensures c.faults.ensures c.in-Err-Failed.ensures.traced

pub returns-in-Err-Memory-clause-read : goal.returns-in-Err-Memory-clause-read
returns-in-Err-Memory-clause-read g c = λ given. lost_read given c.args.path.now c.in-Err-Memory.field-0 c.in-Err-Memory.field-0-is c.in-Err-Memory.ensures.traced
