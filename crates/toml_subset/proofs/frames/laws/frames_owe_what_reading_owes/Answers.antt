use Rattle.std.proofs.Common.{arith}
use Rattle.toml_subset.proofs.frames.Goings.{array_goes_on, table_goes_on}
use Rattle.toml_subset.proofs.frames.laws.frames_owe_what_reading_owes.Goals as goal

pub returns-clause-array : goal.returns-clause-array
returns-clause-array c = array_goes_on

pub returns-clause-table : goal.returns-clause-table
returns-clause-table c text start above branches keys v new is low = table_goes_on text start above branches keys v new is (omega arith)
