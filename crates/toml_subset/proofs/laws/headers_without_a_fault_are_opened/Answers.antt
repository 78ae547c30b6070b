use Rattle.toml_subset.proofs.Law.Made.{header_made, array_header_made}
use Rattle.toml_subset.proofs.laws.headers_without_a_fault_are_opened.Goals as goal

pub returns-clause-tables : goal.returns-clause-tables
returns-clause-tables c at keys root some free = let made = header_made at keys root some free in (made.0, made.1)

pub returns-clause-arrays : goal.returns-clause-arrays
returns-clause-arrays c at keys root some free = let made = array_header_made at keys root some free in (made.0, made.1)
