use Rattle.std.proofs.Common.{length}
use Rattle.toml_value.proofs.tree.fault.+new_tables_fault.Given as goal

abbrev pub decreases-new_tables_fault : goal.decreases-new_tables_fault
decreases-new_tables_fault l = length l.rest.now
