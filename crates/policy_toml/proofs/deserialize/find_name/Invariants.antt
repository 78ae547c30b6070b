use Rattle.std.proofs.Common.{◌≡◌, drop}
use Rattle.policy_toml.specs.Readings.{thing_of_name, rows_of}
use Rattle.policy_toml.proofs.deserialize.find_name.Given as goal

-- the row is among the rest
abbrev pub invariant-rows : goal.invariant-rows
invariant-rows g l = thing_of_name (rows_of l.table) l.name ≡ thing_of_name (rows_of (drop l.known-index l.table)) l.name
