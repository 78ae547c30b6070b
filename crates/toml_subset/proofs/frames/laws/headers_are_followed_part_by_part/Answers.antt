use Rattle.toml_subset.proofs.frames.Levels.{table_way, array_way}
use Rattle.toml_subset.proofs.frames.laws.headers_are_followed_part_by_part.Goals as goal

pub returns-clause-tables : goal.returns-clause-tables
returns-clause-tables ctx document c at keys way some = table_way document c way at keys some

pub returns-clause-arrays : goal.returns-clause-arrays
returns-clause-arrays ctx document c at keys way some = array_way document c way at keys some
